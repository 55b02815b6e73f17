-- `array::ask::ask` meets its contract: `check_ask` asks, and `ask_lent` writes the finished row and counts. Assumes nothing.
use mathlib.Core.List.{List}
use lib.ListN.{length}
use Rattle.parity.specs.Questions.{Question}
use Rattle.shape.proofs.Refusals.{answer-refused}
use Rattle.shape.proofs.Calling.{call-handed}
use Rattle.array_memory.specs.Memory.{with_cells}
use Rattle.array_questions.specs.Questions.{cells_questions, ask_arguments}
use Rattle.array.specs.Calls.{ask_call}
use Rattle.array.proofs.ask.ask.Goals as goal

-- refused
pub returns-in_err-sizes : goal.returns-in_err-sizes
unfolding ask_call
returns-in_err-sizes c =
    let a = c.args in
    let questions : List Question = cells_questions a.shape (length a.cells.now) (ask_arguments a.shape a.row a.given.now (length a.finished.now)) in
    λ mem. call-handed questions a.finished.now (with_cells a.cells.now mem) _ (λ count. count) c.from_residual.result _
    (answer-refused questions a.shape c.check_ask.ensures c.in_err-sizes.was) c.from_residual.ensures.1
