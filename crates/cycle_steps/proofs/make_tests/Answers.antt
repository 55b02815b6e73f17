-- `cycle_steps::make_tests` meets its contract: nothing is done where no test is to be made; else the counters are reduced, the first test's column
-- is taken, `count_tests` makes the tests, and the cells that it leaves become the last one's match bytes. Assumes nothing.
use mathlib.Core.Path.{sym, ap, ap₂, ◌∙◌}
use Prim.Native.Nat.{◌*◌}
use native.Mathlib.Omega.{arith}
use lib.ListN.{length}
use Rattle.parity.specs.Shape.{cell_count}
use Rattle.parity.proofs.ListLaws.{length-tabulate}
use Rattle.parity.proofs.Taken.{limits}
use Rattle.shape.specs.Answers.{accepted, giving}
use Rattle.array_memory.specs.Geometry.{match_bytes}
use Rattle.array_memory.specs.Memory.{with_array, with_all}
use Rattle.cycle_passes.specs.Passes.{column_cells}
use Rattle.cycle_place.specs.Walk.{test_of}
use Rattle.cycle_place.proofs.Padding.{matrix-sized}
use Rattle.cycle_lookup.specs.Lookup.{entry_matches}
use Rattle.cycle_lookup.proofs.Passes.{test-proper, test-matches, reduced-below}
use Rattle.cycle.specs.Calls.{state_of}
use Rattle.cycle_steps.specs.Steps.{stepping}
use Rattle.cycle_steps.specs.Tests.{tested_at}
use Rattle.cycle_steps.proofs.HeldColumn.{test-place, steps-reduced}
use Rattle.cycle_steps.proofs.make_tests.Goals as goal

pub reduce_rows-requires : goal.reduce_rows-requires
reduce_rows-requires c =
    let limit = limits c.args.shape c.requires.matrix_lent.taken in
    record { low = omega arith; high = omega arith }

pub take_down-requires : goal.take_down-requires
unfolding cell_count
take_down-requires c =
    let args = c.args in
    let matrix = c.requires.matrix_lent in
    let wide = matrix-sized matrix in
    let place = (test-place args.shape matrix.taken args.cycle c.requires.lookups_left).0 in
    let rows = c.requires.rows_lent in
    record {
      column = omega (arith, place.column, wide);
      cells = omega (arith, rows.memory.cells, ap₂ ◌*◌ rows.matches wide);
    }

pub count_tests-tested-requires-clause-column_held : goal.count_tests-tested-requires-clause-column_held
count_tests-tested-requires-clause-column_held c =
    let args = c.args in
    let matrix = c.requires.matrix_lent in
    let rows = c.requires.rows_lent in
    let limit = limits args.shape matrix.taken in
    let wide = matrix-sized matrix in
    let matches = ap length c.take_down.ensures ∙ length-tabulate (length args.matches.now) _ in
    let counters = ap length c.reduce_rows.ensures ∙ length-tabulate (length args.counters.now) _ in
    record {
      column = c.take_down.ensures ∙ ap₂ (λ n m. column_cells n args.cycle.place.column args.cells.now m) wide (sym matches);
      below = λ i h.
          rw c.reduce_rows.ensures (reduced-below args.shape.radix (omega arith) args.counters.now i (omega (arith, counters)));
    }

pub scale-input-requires : goal.scale-input-requires
scale-input-requires c =
    let s = c.args.shape in
    let t = c.requires.matrix_lent.taken in
    let tested = c.count_tests-tested in
    let limit = limits s t in
    record {
      radix_nonzero = omega arith;
      exponent_bound = omega (arith, (test-proper c.args.cycle.skip s t tested.result.last tested.ensures.stands).input);
    }

pub overflow_cast-input : goal.overflow_cast-input
overflow_cast-input c =
    let s = c.args.shape in
    let t = c.requires.matrix_lent.taken in
    let tested = c.count_tests-tested in
    let limit = limits s t in
    omega (arith, c.scale-input.ensures, (test-proper c.args.cycle.skip s t tested.result.last tested.ensures.stands).input)

pub returns : goal.returns
unfolding entry_matches match_bytes
returns c =
    let args = c.args in
    let s = args.shape in
    let cycle = args.cycle in
    let z = cycle.skip in
    let cells = args.cells.now in
    let lines = args.lines.now in
    let flags = args.flags.now in
    let totals = args.totals.now in
    let t = c.requires.matrix_lent.taken in
    let rows = c.requires.rows_lent in
    let tested = c.count_tests-tested in
    let left = tested.new in
    let wide = matrix-sized c.requires.matrix_lent in
    let taken = ap length c.take_down.ensures ∙ length-tabulate (length args.matches.now) _ ∙ rows.matches in
    λ mem.
    steps-reduced s t cycle c.requires.lookups_left cells lines args.counters.now flags totals rows.memory mem args.most (omega arith)
    args.matches.now (entry_matches s (test_of z s cycle.place) (with_all cells lines args.counters.now flags totals mem)) rows.matches
    (length-tabulate s.rows _)
    ∙ ap (λ counters. stepping s args.most (tested_at z s cycle.place (with_all cells lines counters flags totals mem) cycle)) (sym c.reduce_rows.ensures)
    ∙ tested.ensures.stepped mem
    ∙ ap (λ bytes. giving (accepted 0) bytes (state_of (with_all cells lines left.counters left.flags left.totals mem) tested.result.cycle))
    (sym
    (test-matches z s t tested.result.last tested.ensures.stands (with_array cells lines mem) rows.memory.cells _ _ _ wide taken
    c.scale-input.ensures tested.ensures.held c.match_column.ensures))
