-- `array::cells::read` meets its contract: `check_read` asks, and `read_lent` copies the rule cells out. Assumes nothing.
use mathlib.Core.List.{List}
use lib.ListN.{length}
use Rattle.parity.specs.Questions.{Question}
use Rattle.shape.proofs.Refusals.{answer-refused}
use Rattle.shape.proofs.Calling.{call-handed}
use Rattle.array_memory.specs.Memory.{with_cells}
use Rattle.array_questions.specs.Questions.{cells_questions, read_arguments}
use Rattle.array.specs.Calls.{read_call}
use Rattle.array.proofs.cells.read.Goals as goal

-- refused
pub returns-in_err-sizes : goal.returns-in_err-sizes
unfolding read_call
returns-in_err-sizes c =
    let a = c.args in
    let questions : List Question = cells_questions a.shape (length a.cells.now) (read_arguments a.shape a.row (length a.out.now)) in
    λ mem. call-handed questions a.out.now (with_cells a.cells.now mem) _ (λ _. 0) c.from_residual.result _
    (answer-refused questions a.shape c.check_read.ensures c.in_err-sizes.was) c.from_residual.ensures.1
