-- Where an element stands in a list, along the ways in which the schedule is put together: each way with the place of what it takes, and the
-- other way round which part a place falls into. Assumes nothing.
use mathlib.Core.Path.{◌≡◌, refl, sym, ap, ◌∙◌}
use mathlib.Core.Logic.{⊎_elim}
use mathlib.Core.Bool.{Bool, true, false, cond}
use mathlib.Core.List.{List, [], ◌∷◌, ◌++◌, map}
use Prim.Native.Nat.{ℕ, zero, suc, ◌+◌, ◌-◌, ◌*◌, ◌<◌, suc-le-suc}
use native.Mathlib.Nat.{le_of_suc-le-suc, not-suc-le-zero, eq-or-lt_of_le, zero-lt-suc}
use native.Mathlib.Omega.{arith}
use lib.Dec.{eqb, ltb, eqb-suc-suc, eqb-zero-suc}
use lib.ListN.{length, get_or, length-append, get_or-append}
use lib.Seq.{get_or-append-add}
use borrow.Author.Tests.{ltb-true, ltb-false}
use Rattle.parity.specs.Lists.{joined}
use Rattle.schedule.specs.Schedule.{over_each, at_last}

-- x stands at place c
abbrev pub Stands {ℓ} : {A : Type ℓ} → List A → ℕ → A → Type ℓ
Stands {A} xs c x = (c < length xs) × ((e : A) → get_or xs c e ≡ x)

module _ {ℓ} {A : Type ℓ} where
  pub stands_same : (xs : List A) (c : ℕ) (x y : A) → Stands xs c x → Stands xs c y → x ≡ y
  stands_same xs c x y h k = sym (h.1 x) ∙ k.1 x

  stands-left : (xs ys : List A) (c : ℕ) (x : A) → Stands xs c x → Stands (xs ++ ys) c x
  stands-left xs ys c x h = (omega (arith, length-append xs ys), λ e. get_or-append xs ys e c h.0 ∙ h.1 e)

  stands-right : (xs ys : List A) (c : ℕ) (x : A) → Stands ys c x → Stands (xs ++ ys) (length xs + c) x
  stands-right xs ys c x h = (omega (arith, length-append xs ys), λ e. get_or-append-add xs ys c e ∙ h.1 e)

  -- ---- list after list

  pub stands-joined : (n : ℕ) (f : ℕ → List A) (i c : ℕ) (x : A) → i < n → Stands (f i) c x → Stands (joined n f) (length (joined i f) + c) x
  stands-joined zero f i c x h k = absurd (not-suc-le-zero h)
  stands-joined (suc n) f i c x h k =
      ⊎_elim
      (λ (e : i ≡ n). rw e (stands-right (joined n f) (f n) c x (rw e at k)))
      (λ (l : i < n). stands-left (joined n f) (f n) (length (joined i f) + c) x (stands-joined n f i c x l k))
      (eq-or-lt_of_le (le_of_suc-le-suc h))

  pub joined-part :
      (n : ℕ) (f : ℕ → List A) (c : ℕ) → c < length (joined n f)
      → (i : ℕ) × (t : ℕ) × (i < n) × (t < length (f i)) × (length (joined i f) + t ≡ c)
  joined-part zero f c h = absurd (not-suc-le-zero h)
  joined-part (suc n) f c h = go (joined-part n f c) (ltb c (length (joined n f))) refl
    where
      go : (c < length (joined n f) → (i : ℕ) × (t : ℕ) × (i < n) × (t < length (f i)) × (length (joined i f) + t ≡ c))
          → (b : Bool) → ltb c (length (joined n f)) ≡ b
          → (i : ℕ) × (t : ℕ) × (i < suc n) × (t < length (f i)) × (length (joined i f) + t ≡ c)
      go rest true e =
          let p = rest (ltb-true c (length (joined n f)) e) in
          (p.0, p.1, omega arith, p.3, p.4)
      go rest false e =
          let k : length (joined n f) < suc c = suc-le-suc (ltb-false c (length (joined n f)) e) in
          (n, c - length (joined n f), omega arith, omega (arith, length-append (joined n f) (f n)), omega arith)

  -- ---- a list for each element, of one length

  pub stands-over_each :
      (f : ℕ → List A) (w : ℕ) → ((j : ℕ) → length (f j) ≡ w)
      → (js : List ℕ) (i j c : ℕ) (x : A) → Stands js i j → Stands (f j) c x → Stands (over_each js f) (i * w + c) x
  stands-over_each f w e [] i j c x h k = absurd (not-suc-le-zero h.0)
  stands-over_each f w e (j' ∷ js) zero j c x h k =
      let here : 0 * w + c ≡ c = omega arith in
      rw here (stands-left (f j') (over_each js f) c x (rw (← h.1 0) at k))
  stands-over_each f w e (j' ∷ js) (suc i) j c x h k =
      let next : suc i * w + c ≡ length (f j') + (i * w + c) = omega (arith, e j') in
      rw next (stands-right (f j') (over_each js f) (i * w + c) x (stands-over_each f w e js i j c x (le_of_suc-le-suc h.0, h.1) k))

  -- ---- element by element

  pub stands-map : {B : Type 0} (f : B → A) (xs : List B) (c : ℕ) (x : B) → Stands xs c x → Stands (map f xs) c (f x)
  stands-map f [] c x h = absurd (not-suc-le-zero h.0)
  stands-map f (y ∷ ys) zero x h = (zero-lt-suc _, λ e. ap f (h.1 x))
  stands-map f (y ∷ ys) (suc c) x h =
      let k = stands-map f ys c x (le_of_suc-le-suc h.0, h.1) in
      (suc-le-suc k.0, k.1)

  pub stands-at_last :
      (f : A → A) (xs : List A) (c : ℕ) (x : A) → Stands xs c x → Stands (at_last f xs) c (cond (eqb (suc c) (length xs)) (f x) x)
  stands-at_last f [] c x h = absurd (not-suc-le-zero h.0)
  stands-at_last f (y ∷ []) zero x h = (zero-lt-suc _, λ e. ap f (h.1 x))
  stands-at_last f (y ∷ []) (suc c) x h = absurd (omega arith)
  stands-at_last f (y ∷ z ∷ zs) zero x h = rw (eqb-suc-suc 0 (suc (length zs)), eqb-zero-suc (length zs)) (zero-lt-suc _, h.1)
  stands-at_last f (y ∷ z ∷ zs) (suc c) x h =
      let k = stands-at_last f (z ∷ zs) c x (le_of_suc-le-suc h.0, h.1) in
      rw (eqb-suc-suc (suc c) (suc (length zs))) (suc-le-suc k.0, k.1)
