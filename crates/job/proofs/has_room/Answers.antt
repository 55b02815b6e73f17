-- `job::has_room` meets its contract: the first buffer that is too short makes the whole test fail. Assumes nothing.
use mathlib.Core.Bool.{and-false}
use borrow.Author.Tests.{le-leb, lt-leb}
use Rattle.array_memory.specs.Blocks.{blocks_of}
use Rattle.job_parse.specs.Parse.{most_cells}
use Rattle.job.specs.Job.{most_rows, most_totals, enough}
use Rattle.job.proofs.has_room.Goals as goal

-- too few cells
pub returns-then-cells-lt-MAX_CELLS : goal.returns-then-cells-lt-MAX_CELLS
unfolding enough
returns-then-cells-lt-MAX_CELLS c = rw (lt-leb most_cells _ c.if-cells-lt-MAX_CELLS.true)

-- too few lines
pub returns-then-lines-lt-MAX_ROWS : goal.returns-then-lines-lt-MAX_ROWS
unfolding enough
returns-then-lines-lt-MAX_ROWS c = rw (lt-leb most_rows c.args.lines c.if-lines-lt-MAX_ROWS.true, and-false)

-- too few counters
pub returns-then-counters-lt-MAX_ROWS : goal.returns-then-counters-lt-MAX_ROWS
unfolding enough
returns-then-counters-lt-MAX_ROWS c = rw (lt-leb most_rows c.args.counters c.if-counters-lt-MAX_ROWS.true, and-false)

-- too few flags
pub returns-then-flags-lt-MAX_ROWS : goal.returns-then-flags-lt-MAX_ROWS
unfolding enough
returns-then-flags-lt-MAX_ROWS c = rw (lt-leb most_rows c.args.flags c.if-flags-lt-MAX_ROWS.true, and-false)

-- too few totals
pub returns-then-totals-lt-MAX_TOTALS : goal.returns-then-totals-lt-MAX_TOTALS
unfolding enough blocks_of
returns-then-totals-lt-MAX_TOTALS c = rw (lt-leb most_totals c.args.totals c.if-totals-lt-MAX_TOTALS.true, and-false)

-- too few match bytes
pub returns-then-matches-lt-MAX_ROWS : goal.returns-then-matches-lt-MAX_ROWS
unfolding enough
returns-then-matches-lt-MAX_ROWS c = rw (lt-leb most_rows c.args.matches c.if-matches-lt-MAX_ROWS.true, and-false)

-- the text decides
pub returns : goal.returns
unfolding enough blocks_of
returns c =
    rw (
      le-leb most_cells _ c.if-cells-lt-MAX_CELLS.false,
      le-leb most_rows _ c.if-lines-lt-MAX_ROWS.false,
      le-leb most_rows _ c.if-counters-lt-MAX_ROWS.false,
      le-leb most_rows _ c.if-flags-lt-MAX_ROWS.false,
      le-leb most_totals _ c.if-totals-lt-MAX_TOTALS.false,
      le-leb most_rows _ c.if-matches-lt-MAX_ROWS.false,
    )
