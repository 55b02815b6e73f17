-- `cycle_place::walk::locate` meets its contract: the first two lookups are the openings, and every other is a test, which `follow` tells the rest of.
-- Assumes nothing.
use mathlib.Core.Path.{refl}
use native.Mathlib.Omega.{arith}
use Rattle.cycle_place.proofs.Padding.{padded-part, padded-matrix}
use Rattle.cycle_place.proofs.Places.{is_place_of-at}
use Rattle.cycle_place.proofs.walk.locate.Goals as goal

pub slice_bounds-locate_opening-end : goal.slice_bounds-locate_opening-end
slice_bounds-locate_opening-end c = padded-part c.requires

pub locate_opening-requires-clause-matrix_lent : goal.locate_opening-requires-clause-matrix_lent
locate_opening-requires-clause-matrix_lent c =
    let given = padded-matrix c.requires in
    record { taken = given.taken; checks = refl; matrix = given.matrix }

pub slice_bounds-follow-end : goal.slice_bounds-follow-end
slice_bounds-follow-end c = padded-part c.requires

pub follow-requires-clause-matrix_lent : goal.follow-requires-clause-matrix_lent
follow-requires-clause-matrix_lent c = padded-matrix c.requires

pub follow-requires-clause-test_at : goal.follow-requires-clause-test_at
follow-requires-clause-test_at c = grind (arith, is_place_of-at)

pub returns : goal.returns
returns c = grind (arith, is_place_of-at)
