-- The elements that a test chooses, in their order: the i-th of those tested stands at the number of those chosen before it, and each place is
-- that of one that passes. What `keep` takes of a table and J(ℓ) are of this kind. Assumes nothing.
use mathlib.Core.Path.{◌≡◌, refl, ap, ap₂, ◌∙◌}
use mathlib.Core.Bool.{Bool, true, false, cond}
use mathlib.Core.List.{List, [], ◌∷◌, ◌++◌}
use Prim.Native.Nat.{ℕ, zero, suc, ◌+◌, ◌≤◌, ◌<◌}
use native.Mathlib.Nat.{add-zero, zero-add, not-suc-le-zero, zero-lt-suc}
use native.Mathlib.Omega.{arith}
use lib.Dec.{eqb}
use lib.ListN.{length, get_or, take}
use lib.Seq.{take-suc, length-take-le}
use Rattle.parity.specs.Lists.{tabulate, joined, keep}
use Rattle.parity.specs.Matrix.{bit, places_from}
use Rattle.parity.proofs.ListLaws.{keep_append}
use Rattle.schedule.proofs.Stands.{Stands, stands-joined, joined-part}

-- f i for each i below n that passes
abbrev pub chosen {ℓ} : {A : Type ℓ} → ℕ → (ℕ → Bool) → (ℕ → A) → List A
chosen n p f = joined n (λ i. cond (p i) (f i ∷ []) [])

module _ {ℓ} {A : Type ℓ} where
  pub stands-chosen : (n : ℕ) (p : ℕ → Bool) (f : ℕ → A) (i : ℕ) → i < n → p i ≡ true → Stands (chosen n p f) (length (chosen i p f)) (f i)
  stands-chosen n p f i h e =
      let one : Stands (cond (p i) (f i ∷ []) []) 0 (f i) = rw e (zero-lt-suc _, λ d. refl) in
      rw add-zero at (stands-joined n (λ i. cond (p i) (f i ∷ []) []) i 0 (f i) h one)

  pub chosen-part :
      (n : ℕ) (p : ℕ → Bool) (f : ℕ → A) (c : ℕ) → c < length (chosen n p f)
      → (i : ℕ) × (i < n) × (p i ≡ true) × (length (chosen i p f) ≡ c)
  chosen-part n p f c h =
      let k = joined-part n (λ i. cond (p i) (f i ∷ []) []) c h in
      let one = only (p k.0) (f k.0) k.1 k.3 in
      (k.0, k.2, one.0, omega (arith, one.1, k.4))
    where
      only : (b : Bool) (x : A) (t : ℕ) → t < length (cond b (x ∷ []) []) → (b ≡ true) × (t ≡ 0)
      only true x t l = (refl, omega arith)
      only false x t l = absurd (not-suc-le-zero l)

  pub keep-chosen : (p : A → Bool) (n : ℕ) (f : ℕ → A) → keep p (tabulate n f) ≡ chosen n (λ i. p (f i)) f
  keep-chosen p zero f = refl
  keep-chosen p (suc n) f = keep_append p (tabulate n f) (f n ∷ []) ∙ ap (λ xs. xs ++ cond (p (f n)) (f n ∷ []) []) (keep-chosen p n f)

places-append :
    (j ℓ : ℕ) (cs ds : List ℕ) → places_from j ℓ (cs ++ ds) ≡ places_from j ℓ cs ++ places_from (j + length cs) ℓ ds
places-append j ℓ [] ds = rw add-zero
places-append j ℓ (c ∷ cs) ds = go (eqb (bit ℓ c) 1) (places-append (suc j) ℓ cs ds)
  where
    next : suc j + length cs ≡ j + suc (length cs)
    next = omega arith

    go : (b : Bool) → places_from (suc j) ℓ (cs ++ ds) ≡ places_from (suc j) ℓ cs ++ places_from (suc j + length cs) ℓ ds
        → cond b (j ∷ places_from (suc j) ℓ (cs ++ ds)) (places_from (suc j) ℓ (cs ++ ds))
        ≡ cond b (j ∷ places_from (suc j) ℓ cs) (places_from (suc j) ℓ cs) ++ places_from (j + suc (length cs)) ℓ ds
    go true e = ap (λ zs. j ∷ zs) (rw next at e)
    go false e = rw next at e

pub places-chosen :
    (ℓ : ℕ) (cs : List ℕ) (n : ℕ) → n ≤ length cs → places_from 0 ℓ (take n cs) ≡ chosen n (λ j. eqb (bit ℓ (get_or cs j 0)) 1) (λ j. j)
places-chosen ℓ cs zero h = refl
places-chosen ℓ cs (suc n) h =
    let here : 0 + length (take n cs) ≡ n = zero-add _ ∙ length-take-le n cs (omega arith) in
    ap (places_from 0 ℓ) (take-suc cs n 0 h)
    ∙ places-append 0 ℓ (take n cs) (get_or cs n 0 ∷ [])
    ∙ ap₂ (λ xs k. xs ++ places_from k ℓ (get_or cs n 0 ∷ [])) (places-chosen ℓ cs n (omega arith)) here
