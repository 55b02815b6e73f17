-- `acam::sums::add_value` meets its contract: the first l sums have the value added, and what is left of the column is its bits from l on.
-- Assumes nothing.
use mathlib.Core.Path.{◌≡◌, sym, ◌∙◌, ap, ap₂}
use mathlib.Core.List.{List}
use Prim.Native.Nat.{ℕ, ◌+◌, ◌*◌, ◌/◌, ◌%◌, ◌^◌}
use native.Mathlib.Nat.{div-div-eq-div-mul, pow-suc}
use native.Mathlib.Numerals.{add-one}
use native.Mathlib.Omega.{arith}
use lib.ListN.{get_or, set}
use Rattle.parity.specs.Shape.{digit}
use Rattle.parity.proofs.Filled.{filled, filled-here, filled_next}
use Rattle.acam.proofs.sums.add_value.Invariants.{added}
use Rattle.acam.proofs.sums.add_value.Goals as goal

-- the sum of check row l, not yet written
unwritten : (f : ℕ → ℕ) (old new : List ℕ) (l : ℕ) → new ≡ filled f old l → get_or new l 0 ≡ get_or old l 0
unwritten f old new l e = ap (λ xs. get_or xs l 0) e ∙ filled-here f old l 0

-- the column's bits from l + 1 on
shift : (column l : ℕ) → column / 2 ^ l / 2 ≡ column / 2 ^ (l + 1)
shift column l = div-div-eq-div-mul column (2 ^ l) 2 ∙ ap (λ x. column / x) (sym (pow-suc 2 l) ∙ ap (λ n. 2 ^ n) (sym (add-one l)))

pub loop-sum-preserved : goal.loop-sum-preserved
unfolding digit
loop-sum-preserved c =
    let args = c.args in
    let loop = c.loop-sum in
    let f : ℕ → ℕ = added args.sums.now args.column args.value in (
      ap₂ (λ xs v. set xs loop.sum-index v) loop.invariant.0
          (ap₂ (λ x y. x + y * args.value) (unwritten f args.sums.now loop.sums loop.sum-index loop.invariant.0) (ap (λ x. x % 2) loop.invariant.1))
          ∙ filled_next f args.sums.now loop.sum-index (omega arith),
      ap (λ x. x / 2) loop.invariant.1 ∙ shift args.column loop.sum-index,
    )
