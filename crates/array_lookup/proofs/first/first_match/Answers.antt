-- `array_lookup::first::first_match` meets its contract: `check_first` asks, and `first_lent` searches. Assumes nothing.
use mathlib.Core.Path.{sym}
use mathlib.Core.List.{List}
use lib.ListN.{length}
use Rattle.parity.specs.Questions.{Question}
use Rattle.shape.specs.Answers.{none, found_of}
use Rattle.shape.proofs.Refusals.{answer-refused, handed, refuses}
use Rattle.array_lookup.specs.Lookups.{array_questions, first_arguments, first_call}
use Rattle.array_lookup.proofs.first.first_match.Goals as goal

-- refused
pub returns-in_err-sizes : goal.returns-in_err-sizes
unfolding first_call
returns-in_err-sizes c =
    let a = c.args in
    let questions : List Question = array_questions a.shape (length a.cells.now) (length a.lines.now) (first_arguments a.shape a.inputs.now) in
    let no = answer-refused questions a.shape c.check_first.ensures c.in_err-sizes.was in
    λ mem. sym (handed none found_of c.from_residual.result _ c.from_residual.ensures.1 (refuses none _ _ no.0))
