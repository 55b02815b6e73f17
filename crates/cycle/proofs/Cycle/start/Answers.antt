-- `cycle::Cycle::start` meets its contract: `check_start` asks, and `start_lent` begins the cycle. Assumes nothing.
use mathlib.Core.List.{List, []}
use Rattle.parity.specs.Questions.{Question}
use Rattle.shape.proofs.Refusals.{answer-refused}
use Rattle.array_memory.specs.Lengths.{rows_lengths}
use Rattle.array_memory.specs.Memory.{Memory, with_rows, no_memory}
use Rattle.array_questions.specs.Questions.{start_questions}
use Rattle.cycle.specs.Calls.{start_call}
use Rattle.cycle.proofs.Given.{gives-refusal, act-done}
use Rattle.cycle.proofs.Cycle.start.Goals as goal

-- refused
pub returns-in-Err : goal.returns-in-Err
unfolding start_call
returns-in-Err c =
    let args = c.args in
    let lent : Memory → Memory = λ mem. with_rows args.counters.now args.flags.now args.totals.now mem in
    let questions : List Question = start_questions args.shape args.skip (rows_lengths (lent no_memory)) in
    λ mem. gives-refusal questions [] (lent mem) args.self _ _ c.in-Err.refusal
    (answer-refused questions args.shape c.check_start.ensures c.in-Err.is) c.refused.ensures

-- an open cycle
pub returns-in-Ok : goal.returns-in-Ok
returns-in-Ok c = λ mem. act-done (c.start_lent.ensures mem c.args.self) c.done.ensures
