-- Lists where one element is set, and where all are alike. Assumes nothing.
use mathlib.Core.Path.{◌≡◌, refl, ap, ◌∙◌}
use mathlib.Core.Logic.{◌≢◌}
use mathlib.Core.Bool.{Bool, true, false}
use mathlib.Core.List.{List, [], ◌∷◌, ◌++◌}
use Prim.Native.Nat.{ℕ, zero, suc, ◌+◌, ◌<◌}
use native.Mathlib.Nat.{zero-add, suc-add}
use lib.Dec.{eqb}
use lib.ListN.{length, get_or, set, replicate}
use lib.Seq.{get_or-set_same, get_or-set_other}
use borrow.Author.Tests.{eqb-true, eqb-false}
use Rattle.schedule.proofs.All.{All}

module _ {ℓ} {A : Type ℓ} where
  module _ (P : A → Type 0) where
    pub all_set : (xs : List A) (i : ℕ) (x : A) → All P xs → P x → All P (set xs i x)
    all_set [] i x h p = tt
    all_set (y ∷ ys) zero x h p = (p, h.1)
    all_set (y ∷ ys) (suc i) x h p = (h.0, all_set ys i x h.1 p)

    pub all_replicate : (n : ℕ) (x : A) → P x → All P (replicate n x)
    all_replicate zero x p = tt
    all_replicate (suc n) x p = (p, all_replicate n x p)

    -- in place i, whichever was set
    pub at_set : (xs : List A) (j : ℕ) (x d : A) (i : ℕ) → j < length xs → (i ≡ j → P x) → (i ≢ j → P (get_or xs i d)) → P (get_or (set xs j x) i d)
    at_set xs j x d i h p rest = go (eqb i j) refl
      where
        go : (b : Bool) → eqb i j ≡ b → P (get_or (set xs j x) i d)
        go true e = let same : i ≡ j = eqb-true i j e in rw (same, get_or-set_same xs j x d h) (p same)
        go false e = let apart : i ≢ j = eqb-false i j e in rw (get_or-set_other xs j i x d apart) (rest apart)

  pub set-append-add : (xs ys : List A) (i : ℕ) (a : A) → set (xs ++ ys) (length xs + i) a ≡ xs ++ set ys i a
  set-append-add [] ys i a = ap (λ k. set ys k a) (zero-add i)
  set-append-add (x ∷ xs) ys i a =
      ap (λ k. set (x ∷ xs ++ ys) k a) (suc-add (length xs) i) ∙ ap (λ (r : List A). x ∷ r) (set-append-add xs ys i a)
