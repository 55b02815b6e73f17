-- Document 01, "The lists of demand 3", with document 02's line call (Card 4), ask and commit (Card 5): calls as data, and a list of them run
-- from the fresh array by the calls' own definitions.
use Rattle.std.specs.Prelude.{List, ℕ}
use Rattle.parity.specs.Lists.{followed}
use Rattle.parity.specs.declared.Shape.{Shape}
use Rattle.shape.specs.Answers.{Result}
use Rattle.array.specs.Calls.{drift_call, line_call, ask_call}
use Rattle.array_lookup.specs.Lookups.{lookup_call}
use Rattle.cycle.specs.Calls.{State, on_memory, fresh, clear_call, program_call, commit_call, start_call, step_call}

-- A call with its arguments: numbers of digits, rows and columns, levels, a line byte, inputs, finished rows and the buffers for these and for match
-- bytes, of any length and contents.
pub data Call : Type 0 where
  clear : Call
  -- the number of digits to skip
  start : ℕ → Call
  -- a row's number and levels
  program : ℕ → List ℕ → Call
  -- a row's number, levels and the buffer for the finished row
  ask : ℕ → List ℕ → List ℕ → Call
  -- a row's number and a finished row
  commit : ℕ → List ℕ → Call
  -- a row's number, a column's and a level
  drift : ℕ → ℕ → ℕ → Call
  -- a row's number and a line byte
  line : ℕ → ℕ → Call
  -- inputs and the buffer for match bytes
  lookup : List ℕ → List ℕ → Call
  -- the buffer for match bytes
  step : List ℕ → Call

-- all that a call gives, by its own definition
abbrev pub call_of : Shape → State → Call → Result State
call_of s st clear = clear_call s st
call_of s st (start z) = start_call s st z
call_of s st (program row given) = program_call s st row given
call_of s st (ask row given buffer) = on_memory (λ mem. ask_call s mem row given buffer) st
call_of s st (commit row finished) = commit_call s st row finished
call_of s st (drift row column level) = on_memory (λ mem. drift_call s mem row column level) st
call_of s st (line row byte) = on_memory (λ mem. line_call s mem row byte) st
call_of s st (lookup inputs matches) = on_memory (λ mem. lookup_call s mem inputs matches) st
call_of s st (step matches) = step_call s st matches

-- the state that it leaves
abbrev pub after : Shape → State → Call → State
after s st c = (call_of s st c).state

-- the state after a list of calls
abbrev pub run_from : Shape → State → List Call → State
run_from s st calls = followed (after s) st calls

-- from the fresh array
unfoldable pub run : Shape → List Call → State
run s calls = run_from s (fresh s) calls
