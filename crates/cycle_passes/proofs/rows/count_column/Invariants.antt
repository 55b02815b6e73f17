-- `cycle_passes::rows::count_column` meets its contract: the first i counters have their rows' match bytes added. Assumes nothing.
use Rattle.cycle_passes.specs.Passes.{column_matches, counted_byte}
use Rattle.cycle_passes.proofs.Pass.{Pass}
use Rattle.cycle_passes.proofs.rows.count_column.Given as goal

abbrev pub invariant-loop-i : goal.invariant-loop-i
invariant-loop-i l = Pass (counted_byte l.radix l.initial.counters (column_matches l.input l.lines l.column)) l.initial.counters l.i l.counters
