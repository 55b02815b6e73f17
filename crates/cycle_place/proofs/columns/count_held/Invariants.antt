-- `cycle_place::columns::count_held` meets its contract: the count so far is that of the columns passed. Assumes nothing.
use mathlib.Core.Path.{◌≡◌}
use Rattle.cycle_place.proofs.CheckRows.{ones_before}
use Rattle.cycle_place.proofs.columns.count_held.Given as goal

abbrev pub invariant-loop-column : goal.invariant-loop-column
invariant-loop-column l = l.count ≡ ones_before l.matrix l.check l.column-index
