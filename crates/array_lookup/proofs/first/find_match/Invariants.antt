-- `array_lookup::first::find_match` meets its contract: what is left of the search over the rows gives the whole search's answer, and within a
-- row what is left of the comparison gives the whole comparison's. Assumes nothing.
use Rattle.array_lookup.proofs.Searching.{CellsLeft, RowsLeft}
use Rattle.array_lookup.proofs.first.find_match.Given as goal

abbrev pub invariant-loop-j : goal.invariant-loop-j
invariant-loop-j l = CellsLeft l.below l.inputs l.cells l.lines l.columns l.i l.j

abbrev pub invariant-rows : goal.invariant-rows
invariant-rows l = RowsLeft l.below l.inputs l.cells l.lines l.columns l.rows l.i
