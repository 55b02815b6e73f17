-- `shape::byte::count_differences` meets its contract: of the first i places those that differ are counted. Assumes nothing.
use mathlib.Core.Path.{◌≡◌}
use Prim.Native.Nat.{◌≤◌}
use lib.ListN.{take}
use Rattle.parity.specs.Lists.{differences}
use Rattle.shape.proofs.byte.count_differences.Given as goal

abbrev pub invariant-loop-i : goal.invariant-loop-i
invariant-loop-i l = (l.count ≤ l.i) × (l.count ≡ differences (take l.i l.one) (take l.i l.other))
