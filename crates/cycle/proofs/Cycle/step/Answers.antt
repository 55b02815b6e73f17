-- `cycle::Cycle::step` meets its contract: `check_step` asks up to 6, and `step_lent` does the rest. Assumes nothing.
use mathlib.Core.List.{List, [], ◌∷◌}
use lib.ListN.{length}
use Rattle.parity.specs.Questions.{Question}
use Rattle.shape.proofs.Refusals.{answer-refused, first_found}
use Rattle.array_memory.specs.Lengths.{all_lengths}
use Rattle.array_memory.specs.Memory.{Memory, with_all, no_memory}
use Rattle.array_questions.specs.Questions.{lent_questions}
use Rattle.cycle.specs.Record.{cycle_question}
use Rattle.cycle.specs.Calls.{step_call}
use Rattle.cycle.proofs.Given.{gives-refusal}
use Rattle.cycle.proofs.Cycle.step.Goals as goal

-- refused up to 6
pub returns-in-Err : goal.returns-in-Err
unfolding step_call
returns-in-Err c =
    let args = c.args in
    let s = args.shape in
    let lent : Memory → Memory = λ mem. with_all args.cells.now args.lines.now args.counters.now args.flags.now args.totals.now mem in
    let first : List Question = lent_questions s [] (all_lengths (lent no_memory)) (length args.matches.now) in
    let no = answer-refused first s c.check_step.ensures c.in-Err.is in
    λ mem. gives-refusal _ args.matches.now (lent mem) args.self _ _ c.in-Err.refusal
    (first_found first (cycle_question s args.self ∷ []) _ no.1 no.0, no.1) c.refused.ensures
