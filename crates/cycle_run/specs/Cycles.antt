-- A whole cycle as one call.
use Rattle.std.specs.Prelude.{List, ℕ, suc, length, replicate}
use Rattle.parity.specs.Matrix.{lookups, cycle_steps}
use Rattle.parity.specs.Questions.{Question}
use Rattle.parity.specs.declared.Shape.{Shape}
use Rattle.shape.specs.Answers.{Result, accepted, giving, calling}
use Rattle.array_memory.specs.Lengths.{all_lengths}
use Rattle.array_memory.specs.Memory.{Memory}
use Rattle.array_questions.specs.Questions.{start_arguments, lent_questions}
use Rattle.cycle_place.specs.Places.{entry_at}
use Rattle.cycle_lookup.specs.Lookup.{entry_matches}
use Rattle.cycle.specs.Calls.{State, start_call}
use Rattle.cycle_steps.specs.Steps.{after_steps}

-- 15 on the number of digits to skip, 6 on the memory and the match bytes; not 9, since the call starts a cycle
abbrev pub cycle_questions : Shape → Memory → ℕ → List ℕ → List Question
cycle_questions s mem z matches = lent_questions s (start_arguments s z) (all_lengths mem) (length matches)

-- the match bytes of a cycle's last lookup, which comes after the two openings and all tests but itself
unfoldable pub last_matches : ℕ → Shape → Memory → List ℕ
last_matches z s mem = entry_matches s (entry_at z s (suc (lookups z s))) mem

-- a start and all the steps of a cycle; the match bytes are those of its last lookup
unfoldable pub cycle_call : Shape → State → ℕ → List ℕ → Result State
cycle_call s st z matches =
    calling (cycle_questions s st.memory z matches) matches st
    (giving (accepted 0) (last_matches z s st.memory) (after_steps s (start_call s st z).state (replicate (cycle_steps z s) matches)))
