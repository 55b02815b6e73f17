-- `acam::compare::match_byte` meets its contract: the cells of the stretches so far have answered. Assumes nothing.
use Prim.Native.Nat.{◌*◌}
use Rattle.acam.proofs.Comparison.{FirstReached}
use Rattle.acam.proofs.compare.match_byte.Given as goal

abbrev pub invariant-loop-i : goal.invariant-loop-i
invariant-loop-i l = FirstReached l.inputs l.row (l.i * 16)
