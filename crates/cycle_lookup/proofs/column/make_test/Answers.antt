-- `cycle_lookup::column::make_test` meets its contract: the column's cells become the test's match bytes and are counted, and `end_test` does the rest.
-- Assumes nothing.
use mathlib.Core.Path.{◌≡◌, sym, ap, ap₂, ◌∙◌}
use Prim.Native.Nat.{◌*◌}
use native.Mathlib.Omega.{arith}
use lib.ListN.{length}
use Rattle.parity.specs.Shape.{cell_count}
use Rattle.parity.proofs.Taken.{limits}
use Rattle.parity.proofs.ListLaws.{length-tabulate}
use Rattle.array_memory.specs.Memory.{Memory, with_array, with_rows}
use Rattle.cycle_passes.specs.Passes.{counted_bytes}
use Rattle.cycle_place.specs.Walk.{test_of}
use Rattle.cycle_lookup.specs.Lookup.{entry_matches}
use Rattle.cycle_lookup.proofs.Passes.{test-proper, test-matches, count-reduced, reduced-below, test-made}
use Rattle.cycle_lookup.proofs.column.make_test.Goals as goal

pub scale-input-requires : goal.scale-input-requires
scale-input-requires c =
    let next = c.requires.test_next in
    let limit = limits c.args.shape next.taken in
    record {
      radix_nonzero = omega arith;
      exponent_bound = omega (arith, (test-proper c.args.skip c.args.shape next.taken c.args.place next.stands).input);
    }

pub overflow_cast-input : goal.overflow_cast-input
overflow_cast-input c =
    let next = c.requires.test_next in
    let limit = limits c.args.shape next.taken in
    omega (arith, c.scale-input.ensures, (test-proper c.args.skip c.args.shape next.taken c.args.place next.stands).input)

pub take_column-requires : goal.take_column-requires
unfolding cell_count
take_column-requires c =
    let next = c.requires.test_next in
    let lent = c.requires.rows_lent in
    record {
      column = omega (arith, next.stands.column, next.columns);
      cells = omega (arith, lent.memory.cells, ap₂ ◌*◌ lent.matches next.columns);
    }

pub reduce_rows-requires : goal.reduce_rows-requires
reduce_rows-requires c =
    let limit = limits c.args.shape c.requires.test_next.taken in
    record { low = omega arith; high = omega arith }

pub overflow_cast-radix : goal.overflow_cast-radix
overflow_cast-radix c =
    let limit = limits c.args.shape c.requires.test_next.taken in
    omega arith

pub count_matches-requires : goal.count_matches-requires
count_matches-requires c =
    let limit = limits c.args.shape c.requires.test_next.taken in
    let lent = c.requires.rows_lent in
    let rows = ap length c.reduce_rows.ensures ∙ length-tabulate (length c.args.counters.now) _ in
    let counters = rows ∙ lent.memory.rows.counters in
    record {
      lines = lent.memory.lines ∙ sym counters;
      cells = ap length c.take_column.ensures ∙ length-tabulate (length c.args.matches.now) _ ∙ lent.matches ∙ sym counters;
      below = λ i h.
          rw c.reduce_rows.ensures (reduced-below c.args.shape.radix (omega arith) c.args.counters.now i (omega (arith, rows)));
    }

pub returns : goal.returns
returns c =
    let args = c.args in
    let next = c.requires.test_next in
    let lent = c.requires.rows_lent in
    let matches = c.count_matches.new.matches in
    let looked :
    (mem : Memory) → matches ≡ entry_matches args.shape (test_of args.skip args.shape args.place) (with_array args.cells.now args.lines.now mem) =
    λ mem.
    test-matches args.skip args.shape next.taken args.place next.stands (with_array args.cells.now args.lines.now mem) lent.memory.cells
    args.columns (length args.matches.now) c.scale-input.result next.columns lent.matches c.scale-input.ensures c.take_column.ensures
    c.count_matches.ensures.matched in
    let counted : c.count_matches.new.counters ≡ counted_bytes args.shape.radix args.counters.now matches =
    c.count_matches.ensures.counted
    ∙ ap (λ counters. counted_bytes args.shape.radix counters matches) c.reduce_rows.ensures
    ∙ count-reduced args.shape.radix args.counters.now matches in
    let rows = with_rows args.counters.now args.flags.now args.totals.now in
    let told = c.end_test.ensures in
    record {
      matched = λ mem. sym (looked mem);
      stepped = λ mem. test-made args.skip args.shape args.place next.stands.unskipped args.ends
          next.ends (with_array args.cells.now args.lines.now (rows mem)) lent.memory
          (looked (rows mem)) counted told.counted told.flagged told.totalled;
    }
