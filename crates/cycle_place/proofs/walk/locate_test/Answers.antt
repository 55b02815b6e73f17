-- `cycle_place::walk::locate_test` meets its contract: each test asks a part of what it is to stand at the place of the count, and all of them together
-- ask it whole. Assumes nothing.
use native.Mathlib.Omega.{arith}
use Rattle.std.proofs.lemmas.Grind.{common_steps}
use Rattle.parity.proofs.Sums.{bit_below}
use Rattle.cycle_place.proofs.Padding.{padded-within, padded-column}
use Rattle.cycle_place.proofs.Spans.{span-high, span-above}
use Rattle.cycle_place.proofs.Standing.{place_tests}
use Rattle.cycle_place.proofs.walk.locate_test.Goals as goal

pub bounds-padded-column : goal.bounds-padded-column
bounds-padded-column c = grind (arith, padded-within c.requires.padded_lent)

pub returns-then-from-power_of_two-eq0 : goal.returns-then-from-power_of_two-eq0
returns-then-from-power_of_two-eq0 c = grind (arith, place_tests, padded-column c.requires.padded_lent)

pub overflow_mul-span : goal.overflow_mul-span
overflow_mul-span c =
    let s = c.args.shape in
    let t = c.requires.padded_lent.taken in
    let d = c.args.place.digit in
    omega (arith, span-above s t d (omega arith) c.scale-next.ensures, span-high s t d)

pub count_before-requires-clause-stands : goal.count_before-requires-clause-stands
count_before-requires-clause-stands c =
    record {
      check = omega arith;
      digit = omega arith;
      unskipped = omega arith;
      column = omega arith;
      held = grind (arith, place_tests, bit_below, padded-column c.requires.padded_lent);
      low = grind (arith, common_steps);
      high = grind (arith, common_steps, place_tests);
      undivided = grind (arith, common_steps);
    }
