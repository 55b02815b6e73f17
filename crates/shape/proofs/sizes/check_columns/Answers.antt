-- `shape::sizes::check_columns` meets its contract: it asks questions 3 to 5, and at each return the tests on the way say which is the first no.
-- Assumes nothing.
use mathlib.Core.Path.{◌≡◌}
use Prim.Native.Nat.{ℕ, ◌+◌, ◌*◌, ◌≤◌}
use native.Mathlib.Nat.{mul-le-mul}
use native.Mathlib.Omega.{arith}
use Rattle.parity.specs.Shape.{limit, redundancy, checks, columns, cell_count}
use Rattle.parity.specs.declared.Shape.{Shape}
use Rattle.parity.proofs.Taken.{range-test, range-low, range-high}
use Rattle.parity.proofs.Redundancy.{redundancy-limit, past-limit, limit-high}
use Rattle.shape.specs.Answers.{accepted}
use Rattle.shape.proofs.sizes.check_columns.Goals as goal

-- the width that the check digits bear
within : (s : Shape) (r : ℕ) → r ≡ redundancy s.errors s.width → 1 ≤ s.errors → s.errors ≤ 3 → r ≤ 8 → s.width ≤ limit s.errors
within s r least low high few = redundancy-limit s.errors s.width low high (omega arith)

-- k too large
pub returns-then-checks-gt-MAX_CHECKS : goal.returns-then-checks-gt-MAX_CHECKS
returns-then-checks-gt-MAX_CHECKS c =
    let s = c.args.shape in
    let past = past-limit s.errors s.width (omega (arith, c.least_checks-checks.ensures)) in
    simp (range-test 1 s.errors s.errors 3 (omega arith) (omega arith), range-high 1 s.width s.width (limit s.errors) past)

-- no rows
pub returns-then-rows-lt-MIN_ROWS : goal.returns-then-rows-lt-MIN_ROWS
returns-then-rows-lt-MIN_ROWS c =
    let s = c.args.shape in
    let wide = within s c.least_checks-checks.result c.least_checks-checks.ensures (omega arith) (omega arith) (omega arith) in
    simp (
      range-test 1 s.errors s.errors 3 (omega arith) (omega arith),
      range-test 1 s.width s.width (limit s.errors) (omega arith) wide,
      range-low 1 s.rows s.rows 4096 (omega arith),
    )

-- too many rows
pub returns-then-rows-gt-MAX_ROWS : goal.returns-then-rows-gt-MAX_ROWS
returns-then-rows-gt-MAX_ROWS c =
    let s = c.args.shape in
    let wide = within s c.least_checks-checks.result c.least_checks-checks.ensures (omega arith) (omega arith) (omega arith) in
    simp (
      range-test 1 s.errors s.errors 3 (omega arith) (omega arith),
      range-test 1 s.width s.width (limit s.errors) (omega arith) wide,
      range-high 1 s.rows s.rows 4096 (omega arith),
    )

-- at most 254 rule columns and 8 check columns, and 4,096 rows
few :
    (c : goal.Else-rows-gt-MAX_ROWS)
    → (c.args.shape.width + c.least_checks-checks.result ≤ 262) × (c.args.shape.rows ≤ 4096)
few c =
    let s = c.args.shape in
    let wide = within s c.least_checks-checks.result c.least_checks-checks.ensures (omega arith) (omega arith) (omega arith) in
    (omega (arith, wide, limit-high s.errors (omega arith) (omega arith)), omega arith)

pub overflow_add-columns : goal.overflow_add-columns
overflow_add-columns c = omega (arith, few c)

pub overflow_mul-cells : goal.overflow_mul-cells
overflow_mul-cells c = omega (arith, mul-le-mul (few c).1 (few c).0)

-- taken
pub returns : goal.returns
unfolding checks columns cell_count
returns c =
    let s = c.args.shape in
    let r = c.least_checks-checks in
    let wide = within s c.least_checks-checks.result c.least_checks-checks.ensures (omega arith) (omega arith) (omega arith) in
    simp (
      range-test 1 s.errors s.errors 3 (omega arith) (omega arith),
      range-test 1 s.width s.width (limit s.errors) (omega arith) wide,
      range-test 1 s.rows s.rows 4096 (omega arith) (omega arith),
    )
    (λ i. accepted (record {
      levels = c.requires i;
      checks = r.ensures i;
      columns = s.width + r.ensures i;
      cells = s.rows * (s.width + r.ensures i);
    }))
