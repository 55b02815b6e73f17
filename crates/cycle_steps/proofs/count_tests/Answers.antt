-- `cycle_steps::count_tests` meets its contract: each turn makes the next test (HeldColumn.antt), and the steps to come lead where all of them
-- lead. Assumes nothing.
use mathlib.Core.Path.{◌≡◌, refl, sym, ap, ap₂, ◌∙◌}
use mathlib.Core.Bool.{true}
use mathlib.Core.List.{List}
use Prim.Native.Nat.{ℕ, suc, ◌+◌, ◌-◌}
use native.Mathlib.Nat.{sub-zero}
use native.Mathlib.Omega.{arith}
use lib.ListN.{length}
use Rattle.parity.specs.Shape.{columns as columns_of}
use Rattle.parity.specs.declared.Shape.{Shape}
use Rattle.parity.proofs.ListLaws.{length-tabulate}
use Rattle.array_memory.specs.Geometry.{match_bytes}
use Rattle.array_memory.specs.Memory.{with_all}
use Rattle.cycle_passes.specs.Passes.{column_cells}
use Rattle.cycle_place.specs.Digits.{digit_at}
use Rattle.cycle_place.specs.Walk.{MatrixLent}
use Rattle.cycle_place.specs.declared.digits.Digit.{Digit}
use Rattle.cycle_place.proofs.Padding.{matrix-sized}
use Rattle.cycle_lookup.specs.Lookup.{entry_matches}
use Rattle.cycle.specs.Record.{is_open}
use Rattle.cycle_steps.specs.Steps.{stepping}
use Rattle.cycle_steps.specs.Tests.{tested_at}
use Rattle.cycle_steps.proofs.Stepping.{stepping-closed}
use Rattle.cycle_steps.proofs.HeldColumn.{test-place, moves, at_test, one_more, one-step}
use Rattle.cycle_steps.proofs.count_tests.Goals as goal

-- the numbers of a digit that is made or held
digit-kept : (s : Shape) (d : ℕ) {digit : Digit} → digit ≡ digit_at s d → digit ≡ digit_at s digit.number
digit-kept s d e = e ∙ ap (digit_at s) (sym (ap (λ digit. digit.number) e))

-- the cells of a column, by the numbers of columns and of rows that the code has
columns-lent :
    {s : Shape} {r rows : ℕ} {bytes : List ℕ} → MatrixLent s r bytes → rows ≡ s.rows → (j : ℕ) (cells : List ℕ)
    → column_cells (columns_of s) j cells s.rows ≡ column_cells (length bytes) j cells rows
columns-lent matrix rows j cells = ap₂ (λ n m. column_cells n j cells m) (sym (matrix-sized matrix)) (sym rows)

pub digit_of-digit-requires-clause-number_le_digits : goal.digit_of-digit-requires-clause-number_le_digits
digit_of-digit-requires-clause-number_le_digits c =
    omega (arith, (test-place c.args.shape c.requires.matrix_lent.taken c.args.cycle c.requires.lookups_left).0.digit)

pub loop-init : goal.loop-init
loop-init c =
    let s = c.args.shape in
    let tests = c.requires.lookups_left in
    let given = c.requires.column_held in
    record {
      held =
          record {
            sized = c.requires.rows_lent.memory;
            cycle = tests.stands;
            opened = tests.made;
            stands = (test-place s c.requires.matrix_lent.taken c.args.cycle tests).0;
            column = given.column ∙ ap (column_cells (columns_of s) c.args.cycle.place.column c.args.cells.now) c.requires.rows_lent.matches;
            below = given.below;
          };
      digit = digit-kept s _ c.digit_of-digit.ensures;
      left = λ mem. rw sub-zero refl;
    }

pub hold_digit-digit-requires-clause-number_le_digits : goal.hold_digit-digit-requires-clause-number_le_digits
hold_digit-digit-requires-clause-number_le_digits c =
    let opened : is_open c.loop.now.phase ≡ true = sym c.is_open.ensures ∙ c.if-not-is_open.false in
    omega (arith, (at_test c.args.cycle.skip c.args.shape c.requires.matrix_lent.taken c.requires.lookups_left.partial c.loop.invariant.held opened).0.digit)

pub follow-here-requires-clause-test_at : goal.follow-here-requires-clause-test_at
follow-here-requires-clause-test_at c =
    let opened : is_open c.loop.now.phase ≡ true = sym c.is_open.ensures ∙ c.if-not-is_open.false in
    record {
      stands = (at_test c.args.cycle.skip c.args.shape c.requires.matrix_lent.taken c.requires.lookups_left.partial c.loop.invariant.held opened).0;
      span = ap (λ d. d.span) c.hold_digit-digit.ensures;
    }

pub count_test-requires-clause-test_next : goal.count_test-requires-clause-test_next
count_test-requires-clause-test_next c =
    let opened : is_open c.loop.now.phase ≡ true = sym c.is_open.ensures ∙ c.if-not-is_open.false in
    let taken = c.requires.matrix_lent.taken in
    record {
      taken = taken;
      columns = matrix-sized c.requires.matrix_lent;
      stands = (at_test c.args.cycle.skip c.args.shape taken c.requires.lookups_left.partial c.loop.invariant.held opened).0;
      ends = ap (λ here. here.ends) c.follow-here.ensures;
    }

pub moved-now-requires : goal.moved-now-requires
moved-now-requires c =
    moves c.args.cycle.skip c.args.shape c.requires.matrix_lent.taken c.requires.lookups_left.partial c.loop.invariant.held
    (sym c.is_open.ensures ∙ c.if-not-is_open.false)

pub loop-preserved : goal.loop-preserved
unfolding entry_matches match_bytes
loop-preserved c =
    let opened : is_open c.loop.now.phase ≡ true = sym c.is_open.ensures ∙ c.if-not-is_open.false in
    let loop = c.loop in
    let held = loop.invariant.held in
    let z = c.args.cycle.skip in
    let s = c.args.shape in
    let t = c.requires.matrix_lent.taken in
    let some = c.requires.lookups_left.partial in
    let next = ap (λ here. here.next) c.follow-here.ensures in
    let counted = c.count_test.ensures in
    let buffer : length loop.matches ≡ s.rows = ap length held.column ∙ length-tabulate s.rows _ in
    let column = counted.held ∙ sym (columns-lent c.requires.matrix_lent buffer loop.now.place.column c.args.cells.now) in
    let lent = with_all c.args.cells.now c.args.lines.now in
    let enough : c.args.most - loop.counter ≡ suc (c.args.most - (loop.counter + 1)) = omega arith in
    record {
      held = one_more z s t some held opened next c.moved-now.ensures counted.stepped column;
      digit = digit-kept s _ c.hold_digit-digit.ensures;
      left =
          λ mem.
          loop.invariant.left mem
          ∙ ap (λ n. stepping s n (tested_at z s loop.last (lent loop.counters loop.flags loop.totals mem) loop.now)) enough
          ∙ one-step z s t some held opened next c.moved-now.ensures counted.stepped column mem _ _ (length-tabulate s.rows _);
    }

-- as many as may be made
pub returns-after-loop-clause-held : goal.returns-after-loop-clause-held
returns-after-loop-clause-held c =
    c.loop.invariant.held.column ∙ columns-lent c.requires.matrix_lent c.requires.rows_lent.matches c.loop.last.column c.args.cells.now

pub returns-after-loop-clause-stepped : goal.returns-after-loop-clause-stepped
returns-after-loop-clause-stepped c =
    let none : c.args.most - c.loop.counter ≡ 0 = omega arith in
    λ mem. rw none at (c.loop.invariant.left mem)

-- the cycle's end
pub returns-then-not-is_open-clause-held : goal.returns-then-not-is_open-clause-held
returns-then-not-is_open-clause-held c =
    c.loop.invariant.held.column ∙ columns-lent c.requires.matrix_lent c.requires.rows_lent.matches c.loop.last.column c.args.cells.now

pub returns-then-not-is_open-clause-stepped : goal.returns-then-not-is_open-clause-stepped
returns-then-not-is_open-clause-stepped c =
    λ mem. c.loop.invariant.left mem ∙ stepping-closed c.args.shape _ _ (sym c.is_open.ensures ∙ c.if-not-is_open.true)
