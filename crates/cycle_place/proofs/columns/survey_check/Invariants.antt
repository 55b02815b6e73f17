-- `cycle_place::columns::survey_check` meets its contract: the sum so far is that of the check rows passed. Assumes nothing.
use mathlib.Core.Path.{◌≡◌}
use lib.ListN.{length}
use Rattle.parity.specs.Lists.{sum_to}
use Rattle.parity.specs.Matrix.{places_from}
use Rattle.cycle_place.proofs.columns.survey_check.Given as goal

abbrev pub invariant-loop-l : goal.invariant-loop-l
invariant-loop-l l = l.before ≡ sum_to l.l (λ k. length (places_from 0 k l.matrix))
