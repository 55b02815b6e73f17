-- `acam::sums::add_value` meets its contract: the first l sums have the value added, and what is left of the column is its bits from l on.
-- Assumes nothing.
use mathlib.Core.Path.{◌≡◌}
use mathlib.Core.List.{List}
use Prim.Native.Nat.{ℕ, ◌+◌, ◌*◌, ◌/◌, ◌^◌}
use lib.ListN.{get_or}
use Rattle.parity.specs.Matrix.{bit}
use Rattle.parity.proofs.Filled.{filled}
use Rattle.acam.proofs.sums.add_value.Given as goal

-- the sum of check row l with the value added
abbrev pub added : List ℕ → ℕ → ℕ → ℕ → ℕ
added sums column v l = get_or sums l 0 + bit l column * v

abbrev pub invariant-loop-sum : goal.invariant-loop-sum
invariant-loop-sum l = (l.sums ≡ filled (added l.initial.sums l.column l.value) l.initial.sums l.sum-index) × (l.rest ≡ l.column / 2 ^ l.sum-index)
