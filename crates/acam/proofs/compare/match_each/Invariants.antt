-- `acam::compare::match_each` meets its contract: the cells so far have answered. Assumes nothing.
use Rattle.acam.proofs.Comparison.{FirstReached}
use Rattle.acam.proofs.compare.match_each.Given as goal

abbrev pub invariant-loop-j : goal.invariant-loop-j
invariant-loop-j l = FirstReached l.inputs l.row l.j
