-- Document 01, "Calls on one array", with the commit of document 02's Card 5: each call that has the cycle record as one definition that gives all of
-- its result, taken or refused.
use Rattle.std.specs.Prelude.{List, [], ◌∷◌, ◌++◌, ℕ, suc, length, replicate}
use Rattle.parity.specs.Codeword.{encode}
use Rattle.parity.specs.Shape.{cell_count}
use Rattle.parity.specs.Questions.{Question}
use Rattle.parity.specs.declared.Shape.{Shape}
use Rattle.shape.specs.Answers.{Result, accepted, giving, calling}
use Rattle.array_memory.specs.Blocks.{blocks}
use Rattle.array_memory.specs.Lengths.{rows_lengths, all_lengths}
use Rattle.array_memory.specs.Memory.{Memory, with_array, with_rows, no_memory}
use Rattle.array_questions.specs.Questions.{cells_questions, program_arguments, commit_arguments, clear_questions, start_questions, lent_questions}
use Rattle.array.specs.Calls.{row_written}
use Rattle.cycle_lookup.specs.Lookup.{entry_matches, looked_up}
use Rattle.cycle.specs.Record.{idle, next_entry, cycle_at, cycle_question}
use Rattle.cycle.specs.declared.Cycle.{Cycle}

-- the lent state of an array: its memory, and the cycle record
pub record State : Type 0 where
  pub memory : Memory
  pub cycle : Cycle

abbrev pub state_of : Memory → Cycle → State
state_of memory cycle = record { memory = memory; cycle = cycle }

-- what a call on the memory alone gives of a state: it leaves the record, which can't know
abbrev pub on_memory : (Memory → Result Memory) → State → Result State
on_memory call st = let r = call st.memory in giving r.said r.bytes (state_of r.state st.cycle)

-- ---- clear

-- counters, flags and totals all 0
unfoldable pub zero_rows : Shape → Memory → Memory
zero_rows s mem = with_rows (replicate s.rows 0) (replicate s.rows 0) (replicate (blocks s) 0) mem

-- cells and lines too
unfoldable pub cleared : Shape → Memory → Memory
cleared s mem = with_array (replicate (cell_count s) 0) (replicate s.rows 0) (zero_rows s mem)

-- cells, lines, counters, flags and totals all 0, record idle with count 0
unfoldable pub clear_call : Shape → State → Result State
clear_call s st = calling (clear_questions s (all_lengths st.memory)) [] st (giving (accepted 0) [] (state_of (cleared s st.memory) idle))

-- the fresh array: what a clear leaves
unfoldable pub fresh : Shape → State
fresh s = state_of (cleared s no_memory) idle

-- ---- program

-- the row becomes the k levels and then the check cells that make them sound, and the record becomes idle with count 0
unfoldable pub program_call : Shape → State → ℕ → List ℕ → Result State
program_call s st row given =
    calling (cells_questions s (length st.memory.cells) (program_arguments s row given)) [] st
    (giving (accepted 0) [] (state_of (row_written s st.memory row (encode s given)) idle))

-- ---- commit

-- the row becomes the n cells that are given, where they are sound, and the record becomes idle with count 0, as programming makes it
unfoldable pub commit_call : Shape → State → ℕ → List ℕ → Result State
commit_call s st row finished =
    calling (cells_questions s (length st.memory.cells) (commit_arguments s row finished)) [] st
    (giving (accepted 0) [] (state_of (row_written s st.memory row finished) idle))

-- ---- start

-- counters, flags and totals 0, record open, count 0, its first opening next, also when a cycle was open
unfoldable pub started : Shape → State → ℕ → State
started s st z = state_of (zero_rows s st.memory) (cycle_at z s 0)

unfoldable pub start_call : Shape → State → ℕ → Result State
start_call s st z = calling (start_questions s z (rows_lengths st.memory)) [] st (giving (accepted 0) [] (started s st z))

-- ---- step

-- the questions up to 6, and then 9
abbrev pub step_questions : Shape → State → List ℕ → List Question
step_questions s st matches = lent_questions s [] (all_lengths st.memory) (length matches) ++ cycle_question s st.cycle ∷ []

-- the match bytes of the entry that the record stands at
unfoldable pub step_matches : Shape → State → List ℕ
step_matches s st = entry_matches s (next_entry s st.cycle) st.memory

-- the memory after that entry's lookup
unfoldable pub stepped_memory : Shape → State → Memory
stepped_memory s st = looked_up s (next_entry s st.cycle) st.memory

-- the next lookup of the schedule is made and counted; after the last one the record is complete
unfoldable pub stepped : Shape → State → State
stepped s st = state_of (stepped_memory s st) (cycle_at st.cycle.skip s (suc st.cycle.count))

unfoldable pub step_call : Shape → State → List ℕ → Result State
step_call s st matches = calling (step_questions s st matches) matches st (giving (accepted 0) (step_matches s st) (stepped s st))
