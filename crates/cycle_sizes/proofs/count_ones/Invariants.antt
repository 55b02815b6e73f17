-- `cycle_sizes::count_ones` meets its contract: the first columns are added up, each of at most 8 ones. Assumes nothing.
use mathlib.Core.Path.{◌≡◌}
use Prim.Native.Nat.{◌*◌, ◌≤◌}
use lib.ListN.{take}
use Rattle.parity.specs.Lists.{sum_over}
use Rattle.parity.specs.Matrix.{weight}
use Rattle.cycle_sizes.proofs.count_ones.Given as goal

abbrev pub invariant-loop-column : goal.invariant-loop-column
invariant-loop-column l = (l.sum ≡ sum_over (take l.column-index l.columns) weight) × (l.sum ≤ 8 * l.column-index)
