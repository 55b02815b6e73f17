-- `array::drift::drift` meets its contract: `check_drift` asks, and `drift_lent` sets the cell. Assumes nothing.
use mathlib.Core.List.{List, []}
use lib.ListN.{length}
use Rattle.parity.specs.Questions.{Question}
use Rattle.shape.proofs.Refusals.{answer-refused}
use Rattle.shape.proofs.Calling.{call-handed}
use Rattle.array_memory.specs.Memory.{with_cells}
use Rattle.array_questions.specs.Questions.{cells_questions, drift_arguments}
use Rattle.array.specs.Calls.{drift_call}
use Rattle.array.proofs.drift.drift.Goals as goal

-- refused
pub returns-in_err-sizes : goal.returns-in_err-sizes
unfolding drift_call
returns-in_err-sizes c =
    let a = c.args in
    let questions : List Question = cells_questions a.shape (length a.cells.now) (drift_arguments a.shape a.row a.column a.level) in
    λ mem. call-handed questions [] (with_cells a.cells.now mem) _ (λ _. 0) c.from_residual.result _
    (answer-refused questions a.shape c.check_drift.ensures c.in_err-sizes.was) c.from_residual.ensures.1
