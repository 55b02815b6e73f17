-- `acam::compare::answer_all` meets its contract: what has been gathered and what is left give the whole comparison's answer. Assumes nothing.
use mathlib.Core.Path.{◌≡◌}
use mathlib.Core.Bool.{◌&&◌}
use lib.ListN.{drop}
use Rattle.acam.specs.Cell.{all_reached}
use Rattle.acam.proofs.compare.answer_all.Given as goal

abbrev pub invariant-loop-j : goal.invariant-loop-j
invariant-loop-j l = l.all && all_reached (drop l.j l.inputs) (drop l.j l.cells) ≡ all_reached l.inputs l.cells
