-- `array_lookup::task::lookup` meets its contract: `check_lookup` asks, and `lookup_lent` looks the rows up. Assumes nothing.
use mathlib.Core.List.{List}
use lib.ListN.{length}
use Rattle.parity.specs.Questions.{Question}
use Rattle.shape.proofs.Refusals.{answer-refused}
use Rattle.shape.proofs.Calling.{call-handed}
use Rattle.array_memory.specs.Memory.{with_array}
use Rattle.array_lookup.specs.Lookups.{array_questions, lookup_arguments, lookup_call}
use Rattle.array_lookup.proofs.task.lookup.Goals as goal

-- refused
pub returns-in_err-sizes : goal.returns-in_err-sizes
unfolding lookup_call
returns-in_err-sizes c =
    let a = c.args in
    let s = a.shape in
    let questions : List Question =
    array_questions s (length a.cells.now) (length a.lines.now) (lookup_arguments s a.inputs.now (length a.matches.now)) in
    λ mem. call-handed questions a.matches.now (with_array a.cells.now a.lines.now mem) _ (λ count. count) c.from_residual.result _
    (answer-refused questions s c.check_lookup.ensures c.in_err-sizes.was) c.from_residual.ensures.1
