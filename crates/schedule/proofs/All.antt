-- What holds of each element of a list, along the ways in which the schedule is put together. Assumes nothing.
use mathlib.Core.List.{List, [], ◌∷◌, ◌++◌, map}
use Prim.Native.Nat.{ℕ, zero, suc, ◌<◌, suc-le-suc}
use native.Mathlib.Nat.{le_of_suc-le-suc, not-suc-le-zero, zero-lt-suc}
use native.Mathlib.Omega.{arith}
use lib.ListN.{length, get_or}
use Rattle.parity.specs.Lists.{joined}
use Rattle.parity.proofs.ListLaws.{Each}
pub use Rattle.parity.proofs.ListLaws.{All}
use Rattle.schedule.specs.Schedule.{over_each, at_last}

module _ {ℓ} {A : Type ℓ} (P Q : A → Type 0) where
  pub all-turn : ((x : A) → P x → Q x) → (xs : List A) → All P xs → All Q xs
  all-turn h [] k = tt
  all-turn h (x ∷ xs) k = (h x k.0, all-turn h xs k.1)

module _ {ℓ} {A : Type ℓ} (P : A → Type 0) where
  pub all-at : (xs : List A) → All P xs → (c : ℕ) → c < length xs → (d : A) → P (get_or xs c d)
  all-at [] h c l d = absurd (not-suc-le-zero l)
  all-at (x ∷ xs) h zero l d = h.0
  all-at (x ∷ xs) h (suc c) l d = all-at xs h.1 c (le_of_suc-le-suc l) d

  pub all_append : (xs ys : List A) → All P xs → All P ys → All P (xs ++ ys)
  all_append [] ys h k = k
  all_append (x ∷ xs) ys h k = (h.0, all_append xs ys h.1 k)

  pub all-joined : (n : ℕ) (f : ℕ → List A) → ((i : ℕ) → i < n → All P (f i)) → All P (joined n f)
  all-joined zero f h = tt
  all-joined (suc n) f h = all_append (joined n f) (f n) (all-joined n f (λ i l. h i (omega arith))) (h n (omega arith))

  pub all-over_each : (js : List ℕ) (f : ℕ → List A) → All (λ j. All P (f j)) js → All P (over_each js f)
  all-over_each [] f h = tt
  all-over_each (j ∷ js) f h = all_append (f j) (over_each js f) h.0 (all-over_each js f h.1)

  pub all-at_last : (f : A → A) → ((x : A) → P x → P (f x)) → (xs : List A) → All P xs → All P (at_last f xs)
  all-at_last f h [] k = tt
  all-at_last f h (x ∷ []) k = (h x k.0, tt)
  all-at_last f h (x ∷ y ∷ ys) k = (k.0, all-at_last f h (y ∷ ys) k.1)

  pub all_map : {B : Type 0} (f : B → A) (xs : List B) → All (λ x. P (f x)) xs → All P (map f xs)
  all_map f [] h = tt
  all_map f (x ∷ xs) h = (h.0, all_map f xs h.1)

  -- f of each two, one of each list
  pub all-pairs :
      (J I : ℕ → Type 0) (f : ℕ → ℕ → A) → ((j a : ℕ) → J j → I a → P (f j a)) → (js xs : List ℕ) → All J js → All I xs
      → All P (over_each js (λ j. map (f j) xs))
  all-pairs J I f h js xs hj ha =
      all-over_each js (λ j. map (f j) xs)
      (all-turn J (λ j. All P (map (f j) xs)) (λ j k. all_map (f j) xs (all-turn I (λ a. P (f j a)) (λ a. h j a k) xs ha)) js hj)

-- the same, said of numbers by place
pub all-each : (P : ℕ → Type 0) (xs : List ℕ) → Each P xs → All P xs
all-each P [] h = tt
all-each P (x ∷ xs) h = (h zero (zero-lt-suc _), all-each P xs (λ j l. h (suc j) (suc-le-suc l)))
