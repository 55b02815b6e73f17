-- `acam::sound::is_balanced` meets its contract: below digit s each check row sums to 0 mod ρ; a sum that fails fails the whole test. Assumes nothing.
use mathlib.Core.Path.{◌≡◌, sym, ◌∙◌, ap}
use mathlib.Core.Bool.{true, false, not-eq-not, false≢true}
use mathlib.Core.List.{List}
use Prim.Native.Nat.{ℕ, ◌%◌, ◌^◌, ◌<◌}
use native.Mathlib.Omega.{arith}
use lib.Dec.{eqb, ltb}
use lib.ListN.{length, get_or, take}
use borrow.Author.Count.{below_more}
use borrow.Author.Tests.{eqb-true, eq-eqb, ltb-true}
use Rattle.parity.specs.Lists.{every_to}
use Rattle.parity.specs.Shape.{digit, levels}
use Rattle.parity.specs.Matrix.{matrix, support}
use Rattle.parity.specs.Codeword.{digit_sum, is_codeword}
use Rattle.parity.specs.declared.Shape.{Shape}
use Rattle.parity.proofs.ListLaws.{every-at, every_to-at, every_to-passes}
use Rattle.parity.proofs.Sums.{check_sum, digit_sum-check_sum}
use Rattle.parity.proofs.Taken.{limits}
use Rattle.parity.proofs.Redundancy.{redundancy_claim}
use Rattle.parity.proofs.MatrixFacts.{matrix_claim}
use Rattle.parity.proofs.CodewordTest.{codeword-test, codeword-passes}
use Rattle.acam.specs.Digits.{floor_sums}
use Rattle.acam.specs.Rows.{ToTest}
use Rattle.acam.proofs.DigitLoop.{power-next, power-fits, sums-ask, sum-at}
use Rattle.parity.proofs.Sizes.{columns-high}
use Rattle.acam.proofs.MatrixArray.{array-sized, array-matrix}
use Rattle.acam.proofs.sound.is_balanced.Invariants.{row_sum, Balanced}
use Rattle.acam.proofs.sound.is_balanced.Goals as goal

module _ (shape : Shape) (r : ℕ) (cs row : List ℕ) (asked : ToTest shape r (length row) cs) where
  -- the row's sums are those of the check rows' supports
  balance : (t ℓ : ℕ) → row_sum shape.radix cs row t ℓ % shape.radix ≡ digit_sum shape.radix t (support shape ℓ) row % shape.radix
  unfolding support
  balance t ℓ =
      ap (λ x. x % shape.radix)
      (ap (λ ds. check_sum (digit shape.radix t) ℓ ds row) ((λ i. take (asked.cells i) (asked.matrix i)) ∙ array-matrix shape asked.taken)
      ∙ sym (digit_sum-check_sum shape.radix t ℓ (matrix shape) row (asked.cells ∙ sym (matrix_claim shape asked.taken).sized)))

  -- what is tested in the turn of digit s
  module _ (s power : ℕ) (sums : List ℕ) (powered : power ≡ shape.radix ^ s) (summed : sums ≡ floor_sums row cs power) where
    tested : (ℓ : ℕ) → ℓ < r → get_or sums ℓ 0 % shape.radix ≡ row_sum shape.radix cs row s ℓ % shape.radix
    tested ℓ h =
        sum-at shape.radix s power (take (length row) cs) row sums powered summed ℓ
        (omega (arith, asked.checks, (redundancy_claim shape asked.taken).high))

    digit-passes : true ≡ every_to r (λ ℓ. eqb (get_or sums ℓ 0 % shape.radix) 0) → Balanced shape.radix r cs row s
    digit-passes passes ℓ h = sym (tested ℓ h) ∙ eqb-true _ 0 (every_to-at r _ (sym passes) ℓ h)

    -- a digit that fails
    digit-fails : s < shape.digits → false ≡ every_to r (λ ℓ. eqb (get_or sums ℓ 0 % shape.radix) 0) → false ≡ is_codeword shape row
    digit-fails h fails =
        sym ((not-eq-not {b = false}).0 (λ sound.
        false≢true
        (fails
        ∙ every_to-passes r _
        (λ ℓ few. eq-eqb _ 0 (tested ℓ few ∙ balance s ℓ ∙ (codeword-test shape row sound).balanced ℓ s (omega (arith, asked.checks)) h)))))

pub floor_sums-sums-requires : goal.floor_sums-sums-requires
floor_sums-sums-requires c =
    let shape = c.args.shape in
    let taken = c.requires.to_test.taken in
    let sized : length c.args.matrix.now ≡ 255 = ap length c.requires.to_test.matrix ∙ array-sized shape taken in
    sums-ask shape taken c.loop.counter c.loop.power c.loop.invariant.0 (omega arith) _ _ (omega (arith, columns-high shape taken)) (omega arith)

pub all_balanced-requires : goal.all_balanced-requires
all_balanced-requires c =
    let taken = c.requires.to_test.taken in
    let few = limits c.args.shape taken in
    record {
      checks_bound = omega (arith, redundancy_claim c.args.shape taken);
      within = record { low = omega arith; high = omega arith };
    }

pub returns-then-not-all_balanced : goal.returns-then-not-all_balanced
returns-then-not-all_balanced c =
    digit-fails c.args.shape c.args.checks c.args.matrix.now c.args.row.now c.requires.to_test c.loop.counter c.loop.power c.floor_sums-sums.result
    c.loop.invariant.0 c.floor_sums-sums.ensures (omega arith) (sym c.if-not-all_balanced.true ∙ c.all_balanced.ensures)

pub overflow_mul-power : goal.overflow_mul-power
overflow_mul-power c =
    omega (arith, power-fits c.args.shape c.requires.to_test.taken c.loop.counter c.loop.power c.loop.invariant.0 (omega arith))

pub loop-preserved : goal.loop-preserved
loop-preserved c =
    let args = c.args in
    let loop = c.loop in (
      power-next args.shape c.requires.to_test.taken loop.counter loop.power loop.invariant.0,
      below_more (Balanced args.shape.radix args.checks args.matrix.now args.row.now) loop.counter loop.invariant.1
          (digit-passes args.shape args.checks args.matrix.now args.row.now c.requires.to_test loop.counter loop.power c.floor_sums-sums.result
          loop.invariant.0 c.floor_sums-sums.ensures (sym c.if-not-all_balanced.false ∙ c.all_balanced.ensures)),
    )

-- all digits pass
pub returns : goal.returns
returns c =
    let args = c.args in
    sym (codeword-passes args.shape args.row.now (record {
      sized = c.requires.to_test.cells;
      below = λ j h. ltb-true _ _ (every-at (λ v. ltb v (levels args.shape)) args.row.now 0 c.requires.row_value j (omega arith));
      balanced = λ ℓ t h k.
          sym (balance args.shape args.checks args.matrix.now args.row.now c.requires.to_test t ℓ)
          ∙ c.loop.invariant.1 t (omega arith) ℓ (omega (arith, c.requires.to_test.checks));
    }))
