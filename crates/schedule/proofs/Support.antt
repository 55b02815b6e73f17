-- J(ℓ), the support of a check row: its places are columns, and there is one, that of check column ℓ. Assumes nothing.
use mathlib.Core.Path.{◌≡◌, ap, ◌∙◌}
use mathlib.Core.Bool.{Bool, true, false, cond}
use mathlib.Core.List.{List, [], ◌∷◌}
use Prim.Native.Nat.{ℕ, zero, suc, ◌+◌, ◌≤◌, ◌<◌}
use native.Mathlib.Nat.{le_of_suc-le-suc, not-suc-le-zero, zero-lt-suc}
use native.Mathlib.Omega.{arith}
use lib.Dec.{eqb}
use lib.ListN.{length, get_or, length-append}
use lib.Seq.{get_or-append-add}
use borrow.Author.Tests.{eq-eqb}
use Rattle.parity.specs.Shape.{checks, columns}
use Rattle.parity.specs.Matrix.{bit, places_from, rule_columns, check_columns, matrix, support}
use Rattle.parity.specs.Questions.{Taken}
use Rattle.parity.specs.declared.Shape.{Shape}
use Rattle.parity.proofs.MatrixFacts.{matrix_claim}
use Rattle.parity.proofs.CheckCells.{bit-own, check_column, check_columns-sized}
use Rattle.schedule.proofs.All.{All}

places-below : (n j ℓ : ℕ) (cs : List ℕ) → j + length cs ≤ n → All (λ i. i < n) (places_from j ℓ cs)
places-below n j ℓ [] h = tt
places-below n j ℓ (c ∷ cs) h = go (eqb (bit ℓ c) 1) (places-below n (suc j) ℓ cs (omega arith))
  where
    go : (b : Bool) → All (λ i. i < n) (places_from (suc j) ℓ cs) → All (λ i. i < n) (cond b (j ∷ places_from (suc j) ℓ cs) (places_from (suc j) ℓ cs))
    go true rest = (omega arith, rest)
    go false rest = rest

places-some : (j ℓ : ℕ) (cs : List ℕ) (i : ℕ) → i < length cs → bit ℓ (get_or cs i 0) ≡ 1 → 0 < length (places_from j ℓ cs)
places-some j ℓ [] i h e = absurd (not-suc-le-zero h)
places-some j ℓ (c ∷ cs) zero h e = rw (eq-eqb (bit ℓ c) 1 e) (zero-lt-suc _)
places-some j ℓ (c ∷ cs) (suc i) h e = go (eqb (bit ℓ c) 1) (places-some (suc j) ℓ cs i (le_of_suc-le-suc h) e)
  where
    go : (b : Bool) → 0 < length (places_from (suc j) ℓ cs) → 0 < length (cond b (j ∷ places_from (suc j) ℓ cs) (places_from (suc j) ℓ cs))
    go true rest = omega arith
    go false rest = rest

module _ (s : Shape) (t : Taken s) (ℓ : ℕ) where
  pub support-below : All (λ j. j < columns s) (support s ℓ)
  unfolding support
  support-below = places-below (columns s) 0 ℓ (matrix s) (omega (arith, (matrix_claim s t).sized))

  pub support-some : ℓ < checks s → 0 < length (support s ℓ)
  unfolding support matrix
  support-some h =
      let rules : List ℕ = rule_columns s.errors (checks s) s.width in
      places-some 0 ℓ (matrix s) (length rules + ℓ)
      (omega (arith, length-append rules (check_columns (checks s)), check_columns-sized (checks s)))
      (ap (bit ℓ) (get_or-append-add rules (check_columns (checks s)) ℓ 0 ∙ check_column (checks s) ℓ h) ∙ bit-own ℓ)
