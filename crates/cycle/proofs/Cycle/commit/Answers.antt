-- `cycle::Cycle::commit` meets its contract: `check_commit` asks, `put_row` writes the row, and the record is idle. Assumes nothing.
use mathlib.Core.Path.{refl}
use mathlib.Core.List.{List, []}
use lib.ListN.{length}
use Rattle.parity.specs.Questions.{Question}
use Rattle.shape.specs.Shapes.{Passed}
use Rattle.shape.proofs.Refusals.{answer-taken, answer-refused}
use Rattle.array_memory.specs.Memory.{with_cells}
use Rattle.array_questions.specs.Questions.{cells_questions, commit_arguments}
use Rattle.array.specs.Calls.{row_written}
use Rattle.cycle.specs.Calls.{commit_call}
use Rattle.cycle.specs.Record.{idle}
use Rattle.cycle.proofs.Given.{gives-refusal, gives-done}
use Rattle.cycle.proofs.Cycle.commit.Goals as goal

-- refused
pub returns-in-Err : goal.returns-in-Err
unfolding commit_call
returns-in-Err c =
    let args = c.args in
    let questions : List Question = cells_questions args.shape (length args.cells.now) (commit_arguments args.shape args.row args.finished.now) in
    λ mem. gives-refusal questions [] (with_cells args.cells.now mem) args.self _ _ c.in-Err.refusal
    (answer-refused questions args.shape c.check_commit.ensures c.in-Err.is) c.refused.ensures

-- the row is written
pub returns-in-Ok : goal.returns-in-Ok
unfolding commit_call
returns-in-Ok c =
    let args = c.args in
    let questions : List Question = cells_questions args.shape (length args.cells.now) (commit_arguments args.shape args.row args.finished.now) in
    let passed : Passed questions args.shape c.in-Ok.sizes =
    answer-taken questions args.shape c.check_commit.ensures c.in-Ok.is in
    λ mem. gives-done questions [] (with_cells args.cells.now mem) args.self _ [] []
    (row_written args.shape (with_cells args.cells.now mem) args.row args.finished.now) _ idle _ passed.none
    c.done.ensures refl (c.put_row.ensures mem) refl
