-- `array::lines::set_line` meets its contract: `check_line` asks, and `line_lent` sets the byte. Assumes nothing.
use mathlib.Core.List.{List, []}
use lib.ListN.{length}
use Rattle.parity.specs.Questions.{Question}
use Rattle.shape.proofs.Refusals.{answer-refused}
use Rattle.shape.proofs.Calling.{call-handed}
use Rattle.array_memory.specs.Memory.{with_lines}
use Rattle.array_questions.specs.Questions.{lines_questions, line_arguments}
use Rattle.array.specs.Calls.{line_call}
use Rattle.array.proofs.lines.set_line.Goals as goal

-- refused
pub returns-in_err-sizes : goal.returns-in_err-sizes
unfolding line_call
returns-in_err-sizes c =
    let a = c.args in
    let questions : List Question = lines_questions a.shape (length a.lines.now) (line_arguments a.shape a.row a.byte) in
    λ mem. call-handed questions [] (with_lines a.lines.now mem) _ (λ _. 0) c.from_residual.result _
    (answer-refused questions a.shape c.check_line.ensures c.in_err-sizes.was) c.from_residual.ensures.1
