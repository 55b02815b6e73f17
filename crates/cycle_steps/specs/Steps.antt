-- Many steps as one call.
use Rattle.std.specs.Prelude.{cond, List, ℕ, zero, suc}
use Rattle.parity.specs.Lists.{followed}
use Rattle.parity.specs.declared.Shape.{Shape}
use Rattle.shape.specs.Answers.{Result, accepted, giving, calling}
use Rattle.cycle.specs.Record.{is_open}
use Rattle.cycle.specs.Calls.{State, step_questions, step_call}

-- the state after a step with each of the buffers for match bytes, one after the other
abbrev pub after_steps : Shape → State → List (List ℕ) → State
after_steps s st buffers = followed (λ st matches. (step_call s st matches).state) st buffers

-- at most n steps, one after the other, while the record is open: each goes on from what the one before gives
abbrev pub stepping : Shape → ℕ → Result State → Result State
stepping s zero r = r
stepping s (suc n) r = cond (is_open r.state.cycle.phase) (stepping s n (step_call s r.state r.bytes)) r

-- The questions of a step, and then at most n steps, up to the cycle's end. The match bytes are those of the last one; where n is 0 nothing is done.
unfoldable pub steps_call : Shape → State → ℕ → List ℕ → Result State
steps_call s st n matches = calling (step_questions s st matches) matches st (stepping s n (giving (accepted 0) matches st))
