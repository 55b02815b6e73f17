-- What a method of the record returns, with the bytes and the memory that it leaves, as all that a call gives.
use Rattle.std.specs.Prelude.{List, ℕ}
use Rattle.std.specs.declared.result.Result.TheVariants as answers
use Rattle.shape.specs.Answers.{Result, outcome_says, giving}
use Rattle.shape.specs.declared.answer.Refusal.{Refusal}
use Rattle.array_memory.specs.Memory.{Memory}
use Rattle.cycle.specs.Calls.{State, state_of}
use Rattle.cycle.specs.declared.Cycle.{Cycle}
use Rattle.cycle.specs.declared.Changed.{Changed}

abbrev pub changing : Changed → List ℕ → Memory → Result State
changing r bytes mem = giving (outcome_says r.outcome) bytes (state_of mem r.cycle)

-- a refusal's return, and that of a call that is done
abbrev pub refused_with : Cycle → Refusal → Changed
refused_with cycle refusal = record { outcome = answers.Err refusal; cycle = cycle }

abbrev pub done_with : Cycle → Changed
done_with cycle = record { outcome = answers.Ok tt; cycle = cycle }
