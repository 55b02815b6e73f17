-- `cycle_place::walk::follow` meets its contract: at each return the tests on the way say which place follows, and whether the digit ends. Assumes nothing.
use native.Mathlib.Omega.{arith}
use Rattle.parity.proofs.Redundancy.{redundancy_claim}
use Rattle.cycle_place.proofs.Following.{here-factor, here-column, here-digit, here-check, here-end}
use Rattle.cycle_place.proofs.Padding.{matrix-sized}
use Rattle.cycle_place.proofs.Standing.{radix_some, check_high, column_high, factor_high}
use Rattle.cycle_place.proofs.walk.follow.Goals as goal

pub next_factor-factor-requires-clause-factor_bound : goal.next_factor-factor-requires-clause-factor_bound
next_factor-factor-requires-clause-factor_bound c = factor_high c.requires.matrix_lent.taken c.requires.test_at.stands

pub next_factor-factor-requires-clause-radix_nonzero : goal.next_factor-factor-requires-clause-radix_nonzero
next_factor-factor-requires-clause-radix_nonzero c = radix_some c.args.shape c.requires.matrix_lent.taken

pub returns-then-factor-span : goal.returns-then-factor-span
returns-then-factor-span c = here-factor c.requires.matrix_lent c.requires.test_at c.next_factor-factor.ensures (omega arith)

pub overflow_add-place : goal.overflow_add-place
overflow_add-place c = omega (arith, column_high c.requires.matrix_lent.taken c.requires.test_at.stands)

pub next_held-later-requires-clause-check_bound : goal.next_held-later-requires-clause-check_bound
next_held-later-requires-clause-check_bound c = check_high c.requires.matrix_lent.taken c.requires.test_at.stands

pub next_held-later-requires-clause-from_in_bounds : goal.next_held-later-requires-clause-from_in_bounds
next_held-later-requires-clause-from_in_bounds c = omega (arith, matrix-sized c.requires.matrix_lent, c.requires.test_at.stands.column)

pub returns-then-later-matrix : goal.returns-then-later-matrix
returns-then-later-matrix c =
    here-column c.requires.matrix_lent c.requires.test_at c.next_factor-factor.ensures (omega arith) c.next_held-later.ensures (omega arith)

pub next_held-requires-clause-check_bound : goal.next_held-requires-clause-check_bound
next_held-requires-clause-check_bound c = check_high c.requires.matrix_lent.taken c.requires.test_at.stands

pub returns-then-skip-digit : goal.returns-then-skip-digit
returns-then-skip-digit c =
    here-digit c.requires.matrix_lent c.requires.test_at c.next_factor-factor.ensures (omega arith) c.next_held-later.ensures (omega arith) (omega arith)
    c.next_held.ensures

pub next_held-requires-then-check-checks-clause-check_bound : goal.next_held-requires-then-check-checks-clause-check_bound
next_held-requires-then-check-checks-clause-check_bound c =
    let lent = c.requires.matrix_lent in
    omega (arith, lent.checks, (redundancy_claim c.args.shape lent.taken).high)

pub returns-then-check-checks : goal.returns-then-check-checks
returns-then-check-checks c =
    here-check c.requires.matrix_lent c.requires.test_at c.next_factor-factor.ensures (omega arith) c.next_held-later.ensures (omega arith) (omega arith)
    (omega arith) c.next_held-then-check-checks.ensures

pub returns : goal.returns
returns c =
    here-end c.requires.matrix_lent c.requires.test_at c.next_factor-factor.ensures (omega arith) c.next_held-later.ensures (omega arith) (omega arith)
    (omega arith)
