-- `cycle_passes::rows::match_column` meets its contract: the first i bytes are match bytes, and the rest are cells. Assumes nothing.
use Rattle.cycle_passes.specs.Passes.{column_match}
use Rattle.cycle_passes.proofs.Pass.{Pass}
use Rattle.cycle_passes.proofs.rows.match_column.Given as goal

abbrev pub invariant-loop-i : goal.invariant-loop-i
invariant-loop-i l = Pass (column_match l.input l.lines l.initial.matches) l.initial.matches l.i l.matches
