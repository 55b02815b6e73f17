-- The longest cycle: 255 by the 1,024 ones of the largest check matrix. Assumes nothing.
use mathlib.Core.Path.{◌≡◌, refl, ap, ◌∙◌}
use mathlib.Core.Logic.{⊎_elim}
use mathlib.Core.Bool.{Bool, true}
use mathlib.Core.List.{List, [], ◌∷◌}
use Prim.Native.Nat.{ℕ, zero, suc, ◌+◌, ◌*◌, ◌^◌, ◌≤◌, suc-le-suc}
use native.Mathlib.Nat.{mul-le-mul, zero-lt-suc, div-le_self}
use native.Mathlib.Omega.{arith}
use lib.Dec.{leb}
use lib.ListN.{length, take, drop, take-append-drop}
use borrow.Author.Tests.{leb-true}
use Rattle.parity.specs.Lists.{keep, sum_over, every_to}
use Rattle.parity.specs.Shape.{digit, levels, largest, limit, redundancy, checks, columns}
use Rattle.parity.specs.Matrix.{weight, of_weight, column_order, eligible, rule_columns, check_columns, matrix, matrix_ones, lookups}
use Rattle.parity.specs.Questions.{shape_refusal, Taken}
use Rattle.parity.specs.Claims.{longest_shape, most_lookups, LongestClaim}
use Rattle.parity.specs.declared.Shape.{Shape}
use Rattle.parity.proofs.ListLaws.{sum-append, Each, each-tabulate, grid-at}
use Rattle.parity.proofs.Taken.{limits, errors-split}
use Rattle.parity.proofs.Redundancy.{redundancy_claim, limit-high}
use Rattle.parity.proofs.RuleColumns.{candidates, rule-columns}
use Rattle.parity.proofs.MatrixFacts.{power-weight, matrix_claim}
use Rattle.parity.proofs.CheckCells.{check_columns-sized}
use Rattle.parity.proofs.MatrixOnes.{matrix_ones-weights}

-- columns of one one each
sum_ones : (cs : List ℕ) → Each (λ c. weight c ≡ 1) cs → sum_over cs weight ≡ length cs
sum_ones [] h = refl
sum_ones (c ∷ cs) h = omega (arith, h 0 (zero-lt-suc (length cs)), sum_ones cs (λ j l. h (suc j) (suc-le-suc l)))

-- the first columns have no more ones than all
sum-take : (k : ℕ) (cs : List ℕ) → sum_over (take k cs) weight ≤ sum_over cs weight
sum-take k cs = omega (arith, sum-append weight (take k cs) (drop k cs), ap (λ ds. sum_over ds weight) (take-append-drop k cs))

-- all the columns that can be rule columns beside r check columns have, with those, at most 1,024 ones: computed for τ = t + 1 = 2 and 3
ones_test : List ℕ → ℕ → ℕ → Bool
ones_test order t r = leb (sum_over (keep (eligible (suc t) r) order) weight + r) 1024

tests-pass : every_to 2 (λ t. every_to 8 (λ r. ones_test column_order (suc t) (suc r))) ≡ true
unfolding ones_test column_order of_weight weight digit eligible
tests-pass = refl

rules-high : (τ r k : ℕ) → 2 ≤ τ → τ ≤ 3 → 1 ≤ r → r ≤ 8 → sum_over (rule_columns τ r k) weight + r ≤ 1024
unfolding ones_test
rules-high zero r k low high r1 r8 = absurd (omega arith)
rules-high (suc t) r k low high r1 r8 =
    let list : List ℕ = candidates (suc t) r in
    let all : sum_over list weight + r ≤ 1024 = leb-true _ _ (grid-at 2 8 (ones_test column_order) tests-pass t r (omega arith) (omega arith) r1 r8) in
    rw (rule-columns (suc t) r k low) (omega (arith, sum-take k list))

-- each check column has one one
checks-sum : (r : ℕ) → r ≤ 8 → sum_over (check_columns r) weight ≡ r
unfolding check_columns
checks-sum r h =
    sum_ones (check_columns r) (each-tabulate (λ c. weight c ≡ 1) r (λ ℓ. 2 ^ ℓ) (λ ℓ l. power-weight ℓ (omega arith))) ∙ check_columns-sized r

-- for τ = 1 each column has one one, and there are at most 254 rule columns
pub matrix_ones-high : (s : Shape) → Taken s → matrix_ones s ≤ 1024
unfolding matrix columns
matrix_ones-high s t =
    let l = limits s t in
    let claim = redundancy_claim s t in
    let sized = (matrix_claim s t).sized in
    let one : s.errors ≡ 1 → Each (λ c. weight c ≡ 1) (matrix s) =
    λ e j l. ap weight ((matrix_claim s t).ones e j (omega arith)) ∙ power-weight 0 (omega arith) in
    rw (matrix_ones-weights s t)
    (⊎_elim
    (λ e. omega (arith, sum_ones (matrix s) (one e), limit-high s.errors l.errors_low l.errors_high))
    (λ h.
    omega (
      arith,
      sum-append weight (rule_columns s.errors (checks s) s.width) (check_columns (checks s)),
      rules-high s.errors (checks s) s.width h l.errors_high claim.low claim.high,
      checks-sum (checks s) claim.high,
    ))
    (errors-split s t))

pub lookups-high : (z : ℕ) (s : Shape) → Taken s → lookups z s ≤ most_lookups
unfolding lookups
lookups-high z s t =
    mul-le-mul {n₂ = 255} {m₂ = 1024} (omega (arith, (limits s t).levels_high, div-le_self (levels s) (s.radix ^ z))) (matrix_ones-high s t)

-- ---- the largest shape

longest-taken : Taken longest_shape
unfolding shape_refusal levels limit largest
longest-taken = refl

-- its columns have 1,024 ones: computed
longest-ones : sum_over (matrix longest_shape) weight ≡ 1024
unfolding matrix rule_columns check_columns column_order of_weight weight eligible digit checks redundancy largest
longest-ones = refl

longest-lookups : lookups 0 longest_shape ≡ most_lookups
unfolding lookups levels
longest-lookups = ap (λ w. 255 * w) (matrix_ones-weights longest_shape longest-taken ∙ longest-ones)

pub longest_claim : LongestClaim
longest_claim = record { most = lookups-high; taken = longest-taken; reached = longest-lookups }
