-- `array::cells::sound` meets its contract: `check_sound` asks, and `sound_lent` tests the row. Assumes nothing.
use mathlib.Core.Path.{sym}
use mathlib.Core.Bool.{false}
use mathlib.Core.List.{List}
use lib.ListN.{length}
use Rattle.parity.specs.Questions.{Question}
use Rattle.shape.proofs.Refusals.{answer-refused, handed, refuses}
use Rattle.array_questions.specs.Questions.{cells_questions, sound_arguments}
use Rattle.array.specs.Calls.{sound_call}
use Rattle.array.proofs.cells.sound.Goals as goal

-- refused
pub returns-in_err-sizes : goal.returns-in_err-sizes
unfolding sound_call
returns-in_err-sizes c =
    let a = c.args in
    let questions : List Question = cells_questions a.shape (length a.cells.now) (sound_arguments a.shape a.row) in
    let no = answer-refused questions a.shape c.check_sound.ensures c.in_err-sizes.was in
    λ mem. sym (handed false (λ verdict. verdict) c.from_residual.result _ c.from_residual.ensures.1 (refuses false _ _ no.0))
