-- `cycle_place::columns::next_held` meets its contract: what is left of the search gives the whole search's answer. Assumes nothing.
use mathlib.Core.Path.{◌≡◌}
use Rattle.cycle_place.proofs.CheckRows.{held_from}
use Rattle.cycle_place.proofs.columns.next_held.Given as goal

abbrev pub invariant-loop-j : goal.invariant-loop-j
invariant-loop-j l = held_from l.matrix l.check l.j ≡ held_from l.matrix l.check l.from
