-- Document 01, "The job program": what a job runs, what it prints, and what it leaves in the buffers that are lent to it.
use Rattle.std.specs.Prelude.{Bool, cond, ◌&&◌, List, ◌++◌, ℕ, zero, suc, leb, length, replicate}
use Rattle.parity.specs.Shape.{levels, columns}
use Rattle.parity.specs.Questions.{if_taken}
use Rattle.parity.specs.declared.Shape.{Shape}
use Rattle.shape.specs.Answers.{Result}
use Rattle.array_memory.specs.Blocks.{blocks_of}
use Rattle.array.specs.Calls.{drift_call}
use Rattle.cycle.specs.Calls.{State, on_memory, fresh, clear_call, program_call}
use Rattle.cycle_run.specs.Cycles.{cycle_call}
use Rattle.job_parse.specs.Parse.{job_shape, row_levels, drift_count, drift_row, drift_column, drift_level, most_cells, job_refusal}
use Rattle.job_text.specs.Text.{refused_text, head_text, rows_text}
use Rattle.job_text.specs.Written.{written}

-- ---- what it runs, by the calls' own definitions

-- rows 0 to i − 1 programmed, each with its levels, one after the other
abbrev pub after_programs : List ℕ → ℕ → State → State
after_programs input zero st = st
after_programs input (suc i) st = (program_call (job_shape input) (after_programs input i st) i (row_levels input i)).state

-- drifts 0 to i − 1 applied, one after the other
abbrev pub after_drifts : List ℕ → ℕ → State → State
after_drifts input zero st = st
after_drifts input (suc i) st =
    (on_memory (λ mem. drift_call (job_shape input) mem (drift_row input i) (drift_column input i) (drift_level input i)) (after_drifts input i st)).state

-- It clears, which makes all lines sound, programs every row, applies the drifts, and runs one cycle that skips no digit: all that this last call gives.
unfoldable pub job_run : List ℕ → Result State
job_run input =
    let s = job_shape input in
    let clear = (clear_call s (fresh s)).state in
    let programmed = after_programs input s.rows clear in
    let drifted = after_drifts input (drift_count input) programmed in
    cycle_call s drifted 0 (replicate s.rows 0)

-- the state that it leaves, and the match bytes of the cycle's last lookup
abbrev pub job_state : List ℕ → State
job_state input = (job_run input).state

abbrev pub job_matches : List ℕ → List ℕ
job_matches input = (job_run input).bytes

-- ---- what it prints

-- q, n and the record's count; then one line per row
unfoldable pub report_text : Shape → State → List ℕ
report_text s st = head_text (levels s) (columns s) st.cycle.count ++ rows_text s.rows st.memory.flags

-- a refusal prints one line and no more
unfoldable pub job_text : List ℕ → List ℕ
job_text input = if_taken (job_refusal input) (report_text (job_shape input) (job_state input)) (refused_text (job_refusal input))

-- ---- what it leaves

-- the buffers that are lent to a job
pub record Space : Type 0 where
  pub cells : List ℕ
  pub lines : List ℕ
  pub counters : List ℕ
  pub flags : List ℕ
  pub totals : List ℕ
  pub matches : List ℕ
  pub out : List ℕ

abbrev pub space : List ℕ → List ℕ → List ℕ → List ℕ → List ℕ → List ℕ → List ℕ → Space
space cells lines counters flags totals matches out =
    record { cells = cells; lines = lines; counters = counters; flags = flags; totals = totals; matches = matches; out = out }

-- the most rows that an array has, by question 5, and the totals of their blocks
abbrev pub most_rows : ℕ
most_rows = 4096

abbrev pub most_totals : ℕ
most_totals = blocks_of most_rows

-- no job's text is longer
abbrev pub most_text : ℕ
most_text = 200000

-- lengths that hold the largest job: its cells, its lines, counters and flags, its totals, its match bytes, and its text
unfoldable pub enough : ℕ → ℕ → ℕ → ℕ → ℕ → ℕ → ℕ → Bool
enough cells lines counters flags totals matches out =
    leb most_cells cells
    && leb most_rows lines
    && leb most_rows counters
    && leb most_rows flags
    && leb most_totals totals
    && leb most_rows matches
    && leb most_text out

abbrev pub roomy : Space → Bool
roomy sp =
    enough (length sp.cells) (length sp.lines) (length sp.counters) (length sp.flags) (length sp.totals) (length sp.matches)
    (length sp.out)

-- what calls leave, m match bytes and the state's m × n cells, m lines, m counters, m flags and ⌈m / 64⌉ totals, at the start of their buffers;
-- every other byte stays
abbrev pub with_run : List ℕ → State → Space → Space
with_run matches st sp =
    let mem = st.memory in
    space
    (written 0 mem.cells sp.cells)
    (written 0 mem.lines sp.lines)
    (written 0 mem.counters sp.counters)
    (written 0 mem.flags sp.flags)
    (written 0 mem.totals sp.totals)
    (written 0 matches sp.matches)
    sp.out

-- a text at the start of out; every other byte stays
abbrev pub with_text : List ℕ → Space → Space
with_text text sp = space sp.cells sp.lines sp.counters sp.flags sp.totals sp.matches (written 0 text sp.out)

-- all that a job gives: the length of its text, and the buffers
pub record Printed : Type 0 where
  pub length : ℕ
  pub space : Space

abbrev pub printed : ℕ → Space → Printed
printed count left = record { length = count; space = left }

-- the whole of a job: a refused one writes its text alone, and without room nothing is done
unfoldable pub job_call : List ℕ → Space → Printed
job_call input sp =
    let run = if_taken (job_refusal input) (with_run (job_matches input) (job_state input) sp) sp in
    cond (roomy sp) (printed (length (job_text input)) (with_text (job_text input) run)) (printed 0 sp)
