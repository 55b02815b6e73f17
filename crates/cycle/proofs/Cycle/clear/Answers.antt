-- `cycle::Cycle::clear` meets its contract: `check_clear` asks, and `clear_lent` fills every buffer with 0. Assumes nothing.
use mathlib.Core.List.{List, []}
use Rattle.parity.specs.Questions.{Question}
use Rattle.shape.proofs.Refusals.{answer-refused}
use Rattle.array_memory.specs.Lengths.{all_lengths}
use Rattle.array_memory.specs.Memory.{Memory, with_all, no_memory}
use Rattle.array_questions.specs.Questions.{clear_questions}
use Rattle.cycle.specs.Calls.{clear_call}
use Rattle.cycle.proofs.Given.{gives-refusal, act-done}
use Rattle.cycle.proofs.Cycle.clear.Goals as goal

-- refused
pub returns-in-Err : goal.returns-in-Err
unfolding clear_call
returns-in-Err c =
    let args = c.args in
    let lent : Memory → Memory = λ mem. with_all args.cells.now args.lines.now args.counters.now args.flags.now args.totals.now mem in
    let questions : List Question = clear_questions args.shape (all_lengths (lent no_memory)) in
    λ mem. gives-refusal questions [] (lent mem) args.self _ _ c.in-Err.refusal
    (answer-refused questions args.shape c.check_clear.ensures c.in-Err.is) c.refused.ensures

-- the fresh array
pub returns-in-Ok : goal.returns-in-Ok
returns-in-Ok c = λ mem. act-done (c.clear_lent.ensures mem c.args.self) c.done.ensures
