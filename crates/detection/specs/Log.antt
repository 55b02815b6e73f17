-- Document 01's log of a list of calls, with the digits that a cycle skips (document 02, Card 2), the lines (Card 4), ask and commit (Card 5). It is fed the
-- shape and the calls alone: of the library it names the shape's sizes, the questions on arguments, the encoded row and the length of a cycle.
use Rattle.std.specs.Prelude.{Bool, true, false, cond, List, [], ℕ, suc, eqb, length, get_or, set, replicate}
use Rattle.parity.specs.Lists.{followed}
use Rattle.parity.specs.Shape.{columns}
use Rattle.parity.specs.Matrix.{cycle_steps}
use Rattle.parity.specs.Codeword.{encode}
use Rattle.parity.specs.Questions.{Question, first_no, if_taken}
use Rattle.parity.specs.declared.Shape.{Shape}
use Rattle.array_questions.specs.Questions.{
  drift_arguments,
  line_arguments,
  program_arguments,
  ask_arguments,
  commit_arguments,
  start_arguments,
  step_arguments,
}
use Rattle.array_lookup.specs.Lookups.{lookup_arguments}
use Rattle.call_lists.specs.Run.{Call, clear, start, program, ask, commit, drift, line, lookup, step}

-- ---- what it holds

-- each row in two forms, as written and as it stands, and its line
pub record LogRows : Type 0 where
  pub written : List (List ℕ)
  pub standing : List (List ℕ)
  pub lines : List ℕ

-- a cycle that is none, open or ended, the number z of low digits that it skips, and a step count
pub data Course : Type 0 where
  none open-cycle ended : Course

pub record LogCycle : Type 0 where
  pub course : Course
  pub skip : ℕ
  pub count : ℕ

-- two marks: document 01's is on where a drift or a line setting was accepted since the start; the weaker one where a cell or a line has become another
pub record LogMarks : Type 0 where
  pub mark : Bool
  pub changed : Bool

pub record Log : Type 0 where
  pub rows : LogRows
  pub cycle : LogCycle
  pub marks : LogMarks

-- A log is made from another by these alone: a further field is a further line here.
abbrev pub with_forms : List (List ℕ) → List (List ℕ) → Log → Log
with_forms written standing l =
    record { rows = record { written = written; standing = standing; lines = l.rows.lines }; cycle = l.cycle; marks = l.marks }

abbrev pub with_lines : List ℕ → Log → Log
with_lines lines l =
    record { rows = record { written = l.rows.written; standing = l.rows.standing; lines = lines }; cycle = l.cycle; marks = l.marks }

abbrev pub with_cycle : Course → ℕ → ℕ → Log → Log
with_cycle course skip count l = record { rows = l.rows; cycle = record { course = course; skip = skip; count = count }; marks = l.marks }

abbrev pub with_marks : Bool → Bool → Log → Log
with_marks mark changed l = record { rows = l.rows; cycle = l.cycle; marks = record { mark = mark; changed = changed } }

-- at first, and after a clear: all levels 0, all lines sound, cycle none, count 0, marks off
unfoldable pub blank : Shape → Log
blank s =
    let row : List ℕ = replicate (columns s) 0 in
    let rows = replicate s.rows row in
    record {
      rows = record { written = rows; standing = rows; lines = replicate s.rows 0 };
      cycle = record { course = none; skip = 0; count = 0 };
      marks = record { mark = false; changed = false };
    }

-- ---- what a call that is taken does to it

-- a program or a commit: both forms of the row become these n levels; cycle none, count 0
abbrev pub log_written : ℕ → List ℕ → Log → Log
log_written row cells l = with_forms (set l.rows.written row cells) (set l.rows.standing row cells) (with_cycle none 0 0 l)

-- the weaker mark after a byte has been set: to what it was is no change
abbrev pub changed_by : ℕ → ℕ → Bool → Bool
changed_by old new changed = cond (eqb old new) changed true

-- a drift: the cell of the row as it stands takes the level; mark on
abbrev pub log_drift : ℕ → ℕ → ℕ → Log → Log
log_drift row column level l =
    let old = get_or l.rows.standing row [] in
    with_forms l.rows.written (set l.rows.standing row (set old column level))
    (with_marks true (changed_by (get_or old column 0) level l.marks.changed) l)

-- a line setting: the row's line takes the byte; mark on
abbrev pub log_line : ℕ → ℕ → Log → Log
log_line row byte l =
    with_lines (set l.rows.lines row byte) (with_marks true (changed_by (get_or l.rows.lines row 0) byte l.marks.changed) l)

-- a start: cycle open, with its z, count 0, marks off
abbrev pub log_start : ℕ → Log → Log
log_start z l = with_cycle open-cycle z 0 (with_marks false false l)

-- a step: 1 is added to the count; at 2 + (q / ρ^z − 1) × W the cycle is ended
abbrev pub log_step : Shape → Log → Log
log_step s l =
    let z = l.cycle.skip in
    let count = suc l.cycle.count in
    with_cycle (cond (eqb count (cycle_steps z s)) ended open-cycle) z count l

-- a step while the cycle isn't open is refused
abbrev pub while_open : Course → Log → Log → Log
while_open none taken refused = refused
while_open open-cycle taken refused = taken
while_open ended taken refused = refused

-- A program writes the k levels and then the check cells that make them sound, a commit the n levels that it is given; ask and task lookup change nothing.
abbrev pub log_taken : Shape → Log → Call → Log
log_taken s l clear = blank s
log_taken s l (start z) = log_start z l
log_taken s l (program row given) = log_written row (encode s given) l
log_taken s l (ask row given buffer) = l
log_taken s l (commit row finished) = log_written row finished l
log_taken s l (drift row column level) = log_drift row column level l
log_taken s l (line row byte) = log_line row byte l
log_taken s l (lookup inputs matches) = l
log_taken s l (step matches) = while_open l.cycle.course (log_step s l) l

-- ---- a list of calls

-- what a call asks of its arguments
abbrev pub arguments_of : Shape → Call → List Question
arguments_of s clear = []
arguments_of s (start z) = start_arguments s z
arguments_of s (program row given) = program_arguments s row given
arguments_of s (ask row given buffer) = ask_arguments s row given (length buffer)
arguments_of s (commit row finished) = commit_arguments s row finished
arguments_of s (drift row column level) = drift_arguments s row column level
arguments_of s (line row byte) = line_arguments s row byte
arguments_of s (lookup inputs matches) = lookup_arguments s inputs (length matches)
arguments_of s (step matches) = step_arguments s (length matches)

-- a call whose arguments fail a question is refused: no change
abbrev pub log_call : Shape → Log → Call → Log
log_call s l c = if_taken (first_no (arguments_of s c)) (log_taken s l c) l

abbrev pub log_from : Shape → Log → List Call → Log
log_from s l calls = followed (log_call s) l calls

-- the log of a list of calls
unfoldable pub log : Shape → List Call → Log
log s calls = log_from s (blank s) calls
