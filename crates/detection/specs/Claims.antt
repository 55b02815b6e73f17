-- Demand 3 as one type, and the theorems beside it; the proofs are in proofs/.
use Rattle.std.specs.Prelude.{
  ◌≡◌,
  ◌↔◌,
  ◌≢◌,
  true,
  false,
  cond,
  ◌&&◌,
  List,
  [],
  ◌∷◌,
  ◌++◌,
  map,
  ℕ,
  suc,
  ◌-◌,
  ◌*◌,
  ◌≤◌,
  ◌<◌,
  eqb,
  length,
  get_or,
  take,
  replicate,
}
use Rattle.parity.specs.Lists.{tabulate, joined, differences}
use Rattle.parity.specs.Shape.{levels, columns, cell_count}
use Rattle.parity.specs.Matrix.{matrix_ones, cycle_steps}
use Rattle.parity.specs.Codeword.{Codeword, is_codeword}
use Rattle.parity.specs.Questions.{Taken}
use Rattle.parity.specs.declared.Shape.{Shape}
use Rattle.schedule.specs.Coarse.{floors, is_balanced_from}
use Rattle.schedule.specs.Schedule.{schedule}
use Rattle.schedule.specs.Tally.{Tally, tally_run, fresh_tally}
use Rattle.array_memory.specs.Geometry.{row_at}
use Rattle.array_memory.specs.Lengths.{Sized}
use Rattle.cycle.specs.Record.{cycle_at, is_next}
use Rattle.cycle.specs.Calls.{State, step_call}
use Rattle.call_lists.specs.Run.{Call, start, program, line, step, run_from, run}
use Rattle.detection.specs.Log.{Course, none, open-cycle, ended, log}
use Rattle.cycle.specs.declared.Cycle.{Cycle}
use Rattle.cycle.specs.declared.Phase.{Phase}
use Rattle.cycle.specs.declared.Phase.TheVariants.{Idle, Open, Complete}

-- the cells of rows, one row after the other
abbrev pub flat : List (List ℕ) → List ℕ
flat [] = []
flat (row ∷ rows) = row ++ flat rows

-- the record's phase that goes with the log's cycle
abbrev pub course_phase : Course → Phase
course_phase none = Idle
course_phase open-cycle = Open
course_phase ended = Complete

-- flag 0 where a row's line is sound and what is seen of its two forms is equal, and 1 where what is seen differs or the line, dead or shorted, isn't sound
pub record RightFlag (line_byte : ℕ) (written standing : List ℕ) (flag : ℕ) : Type 0 where
  pub unchanged : line_byte ≡ 0 → written ≡ standing → flag ≡ 0
  pub changed : (written ≡ standing → ⊥) → flag ≡ 1
  pub unsound : line_byte ≢ 0 → flag ≡ 1

-- row i after a list of calls: as written, as it stands, its line, its flag, and what the cycle keeps of it
abbrev pub wrote_at : Shape → List Call → ℕ → List ℕ
wrote_at s calls i = get_or (log s calls).rows.written i []

abbrev pub stands_at : Shape → List Call → ℕ → List ℕ
stands_at s calls i = get_or (log s calls).rows.standing i []

abbrev pub line_at : Shape → List Call → ℕ → ℕ
line_at s calls i = get_or (log s calls).rows.lines i 0

abbrev pub flag_at : Shape → List Call → ℕ → ℕ
flag_at s calls i = get_or (run s calls).memory.flags i 0

abbrev pub tallied_at : Shape → List Call → ℕ → Tally
tallied_at s calls i = record { counter = get_or (run s calls).memory.counters i 0; flag = flag_at s calls i }

-- a cycle is open or has ended, and no cell and no line has become another since its start
abbrev pub Still : Shape → List Call → Type 0
Still s calls = ((log s calls).cycle.course ≢ none) × ((log s calls).marks.changed ≡ false)

-- a cycle has ended, and no cell and no line has become another between its start and its last step, nor since
abbrev pub EndedStill : Shape → List Call → Type 0
EndedStill s calls = ((log s calls).cycle.course ≡ ended) × ((log s calls).marks.changed ≡ false)

-- a cycle has ended with document 01's mark off: no accepted drift or line setting fell between its start and its last step, nor since
abbrev pub EndedUnmarked : Shape → List Call → Type 0
EndedUnmarked s calls = ((log s calls).cycle.course ≡ ended) × ((log s calls).marks.mark ≡ false)

-- After a list of calls the cells are the rows as they stand, the lines are the log's, every written row is sound, and the record is idle, open or
-- complete as the log's cycle is none, open or ended, with the log's count and the log's z. A cycle ends exactly at its accepted step
-- 2 + (q / ρ^z − 1) × W: the count is that number where it has ended and below it where it is open. While it is open or has ended, and nothing has changed
-- since its start, counter and flag of each row are what the lookups made so far give of its line and its cells, whatever calls stood between; and at its
-- end the flag tells whether the line isn't sound or a digit sum from z on isn't 0, however many cells differ. So where it has ended and nothing has changed
-- since its start, each row of whose cells at most τ differ between its two forms in floor(level / ρ^z) has flag 0 if none does and its line is sound, and 1
-- if some do or its line, dead or shorted, isn't sound. A row whose line isn't sound has flag 1 however many cells differ.
pub record Detects (s : Shape) (calls : List Call) : Type 0 where
  pub cells : (run s calls).memory.cells ≡ flat (log s calls).rows.standing
  pub lines : (run s calls).memory.lines ≡ (log s calls).rows.lines
  pub sound : (i : ℕ) → i < s.rows → Codeword s (wrote_at s calls i)
  pub phase : (run s calls).cycle.phase ≡ course_phase (log s calls).cycle.course
  pub count : (run s calls).cycle.count ≡ (log s calls).cycle.count
  pub skip : (run s calls).cycle.skip ≡ (log s calls).cycle.skip
  pub open-below : (log s calls).cycle.course ≡ open-cycle → (run s calls).cycle.count < cycle_steps (log s calls).cycle.skip s
  pub ended_at : (log s calls).cycle.course ≡ ended → (run s calls).cycle.count ≡ cycle_steps (log s calls).cycle.skip s
  pub tallied :
      Still s calls → (i : ℕ) → i < s.rows → let made = take (log s calls).cycle.count (schedule (log s calls).cycle.skip s) in
      tallied_at s calls i ≡ tally_run s (line_at s calls i) (stands_at s calls i) made fresh_tally
  pub told :
      EndedStill s calls → (i : ℕ) → i < s.rows → let z = (log s calls).cycle.skip in
      flag_at s calls i ≡ cond (eqb (line_at s calls i) 0 && is_balanced_from z s (stands_at s calls i)) 0 1
  pub verdict :
      EndedStill s calls → (i : ℕ) → i < s.rows → let z = (log s calls).cycle.skip in
      differences (floors z s (wrote_at s calls i)) (floors z s (stands_at s calls i)) ≤ s.errors
      → RightFlag (line_at s calls i) (floors z s (wrote_at s calls i)) (floors z s (stands_at s calls i)) (flag_at s calls i)
  pub unsound : EndedStill s calls → (i : ℕ) → i < s.rows → line_at s calls i ≢ 0 → flag_at s calls i ≡ 1

-- Every shape taken, every list of calls.
abbrev pub DetectionClaim : Type 0
DetectionClaim = (s : Shape) → Taken s → (calls : List Call) → Detects s calls

-- Where document 01's mark is off nothing has changed, so all of this holds with that mark too.
abbrev pub UnmarkedClaim : Type 0
UnmarkedClaim = (s : Shape) (calls : List Call) → EndedUnmarked s calls → EndedStill s calls

-- a list in which no line is set
abbrev pub SetsNoLine : List Call → Type 0
SetsNoLine calls = (before rest : List Call) (row byte : ℕ) → calls ≢ before ++ line row byte ∷ rest

-- There every line is sound, so that what is claimed is at least what was claimed before there were lines.
abbrev pub SoundLinesClaim : Type 0
SoundLinesClaim = (s : Shape) (calls : List Call) → SetsNoLine calls → (i : ℕ) → line_at s calls i ≡ 0

-- Demand 3's own sentence, of a cycle that skips no digit, with document 01's mark: it ends exactly at its accepted step 2 + (q − 1) × W, and where it
-- has ended with the mark off, each row whose two forms differ in at most τ cells has flag 0 if they are equal and its line is sound, and 1 if not.
pub record DetectsAll (s : Shape) (calls : List Call) : Type 0 where
  pub open-below : (log s calls).cycle.course ≡ open-cycle → (run s calls).cycle.count < suc (suc ((levels s - 1) * matrix_ones s))
  pub ended_at : (log s calls).cycle.course ≡ ended → (run s calls).cycle.count ≡ suc (suc ((levels s - 1) * matrix_ones s))
  pub verdict :
      EndedUnmarked s calls → (i : ℕ) → i < s.rows → differences (wrote_at s calls i) (stands_at s calls i) ≤ s.errors
      → RightFlag (line_at s calls i) (wrote_at s calls i) (stands_at s calls i) (flag_at s calls i)

abbrev pub DemandClaim : Type 0
DemandClaim = (s : Shape) → Taken s → (calls : List Call) → (log s calls).cycle.skip ≡ 0 → DetectsAll s calls

-- Card 2's sentence and those of Cards 4 and 7, under demand 3's premises: a row whose two forms differ in at most τ cells is flagged exactly when its line
-- isn't sound or some cell differs in floor(level / ρ^z).
abbrev pub CoarseClaim : Type 0
CoarseClaim =
    (s : Shape) → Taken s → (calls : List Call) → EndedUnmarked s calls → (i : ℕ) → i < s.rows → let z = (log s calls).cycle.skip in
    differences (wrote_at s calls i) (stands_at s calls i) ≤ s.errors
    → RightFlag (line_at s calls i) (floors z s (wrote_at s calls i)) (floors z s (stands_at s calls i)) (flag_at s calls i)

-- No list makes a cell of q or more.
abbrev pub LevelsClaim : Type 0
LevelsClaim = (s : Shape) → Taken s → (calls : List Call) (i : ℕ) → i < cell_count s → get_or (run s calls).memory.cells i 0 < levels s

-- a step with each of the buffers for match bytes
abbrev pub steps_with : List (List ℕ) → List Call
steps_with buffers = map step buffers

-- each buffer has m bytes
abbrev pub Buffers : Shape → List (List ℕ) → Type 0
Buffers s [] = Unit {0}
Buffers s (buffer ∷ buffers) = (length buffer ≡ s.rows) × Buffers s buffers

-- A cycle is complete exactly at its accepted step 2 + (q / ρ^z − 1) × W: a start with z and c accepted steps leave the record of c, open below that
-- number and complete at it, whatever stood in lines, counters, flags, record and buffers before, and for every number of rows.
abbrev pub CourseClaim : Type 0
CourseClaim =
    (z : ℕ) (s : Shape) → Taken s → z < s.digits → (st : State) → Sized s st.memory
    → (buffers : List (List ℕ)) → Buffers s buffers → length buffers ≤ cycle_steps z s
    → ((run_from s st (start z ∷ steps_with buffers)).cycle ≡ cycle_at z s (length buffers))
    × ((cycle_at z s (length buffers)).count ≡ length buffers)
    × ((length buffers < cycle_steps z s) → (cycle_at z s (length buffers)).phase ≡ Open)
    × ((length buffers ≡ cycle_steps z s) → (cycle_at z s (length buffers)).phase ≡ Complete)

-- Question 9 asks whether the record is one that a start with some z and accepted steps on this shape leave, with a vector still to come.
abbrev pub QuestionNineClaim : Type 0
QuestionNineClaim =
    (s : Shape) → Taken s → (cycle : Cycle)
    → (is_next s cycle ≡ true)
    ↔ ((z : ℕ)
    × (z < s.digits)
    × (buffers : List (List ℕ))
    × Buffers s buffers
    × (length buffers < cycle_steps z s)
    × (cycle ≡ (run s (start z ∷ steps_with buffers)).cycle))

-- An opening leaves every counter byte as it found it, also one of ρ or more, which no list makes.
abbrev pub OpeningClaim : Type 0
OpeningClaim =
    (s : Shape) (st : State) (matches : List ℕ) → (step_call s st matches).said.taken ≡ true → st.cycle.count < 2
    → (step_call s st matches).state.memory.counters ≡ st.memory.counters

-- On an array that stays still, with all cells below q, a start with z and a whole cycle leave flags that say exactly which rows have a line that
-- isn't sound or a digit sum of some s from z on that isn't 0 mod ρ, whatever counters and flags were before; also beyond τ changed cells.
-- (`is_balanced_from` is
-- `BalancedFrom` as a test: `BalancedClaim` of schedule.)
abbrev pub StillClaim : Type 0
StillClaim =
    (z : ℕ) (s : Shape) → Taken s → z < s.digits → (st : State) → Sized s st.memory
    → ((i : ℕ) → i < cell_count s → get_or st.memory.cells i 0 < levels s)
    → (buffers : List (List ℕ)) → Buffers s buffers → length buffers ≡ cycle_steps z s
    → (run_from s st (start z ∷ steps_with buffers)).memory.flags
    ≡ tabulate s.rows (λ i. cond (eqb (get_or st.memory.lines i 0) 0 && is_balanced_from z s (row_at (columns s) st.memory.cells i)) 0 1)

-- Where no digit is skipped, they say exactly which rows have a line that isn't sound or are not sound. (`is_codeword` is `Codeword` as a test:
-- `CodewordClaim` of parity.)
abbrev pub StillSoundClaim : Type 0
StillSoundClaim =
    (s : Shape) → Taken s → (st : State) → Sized s st.memory → ((i : ℕ) → i < cell_count s → get_or st.memory.cells i 0 < levels s)
    → (buffers : List (List ℕ)) → Buffers s buffers → length buffers ≡ cycle_steps 0 s
    → (run_from s st (start 0 ∷ steps_with buffers)).memory.flags
    ≡ tabulate s.rows (λ i. cond (eqb (get_or st.memory.lines i 0) 0 && is_codeword s (row_at (columns s) st.memory.cells i)) 0 1)

-- every flagged row programmed again from what was last written
abbrev pub repair : Shape → List ℕ → List (List ℕ) → List Call
repair s flags written = joined s.rows (λ i. cond (eqb (get_or flags i 0) 0) [] (program i (take s.width (get_or written i [])) ∷ []))

-- December's shutdown: after a list whose cycle has ended and in which nothing has changed since its start, the cycle having skipped no digit, and after
-- which every line is sound and every row that isn't flagged is within τ cells of its written form, every flagged row is programmed again and a whole cycle
-- is run, with any z. Then every row stands as it was written, and no row is flagged. A flagged row may have changed in any number of cells.
pub record Shutdown (z : ℕ) (s : Shape) (calls : List Call) (buffers : List (List ℕ)) : Type 0 where
  pub restored :
      (i : ℕ) → i < s.rows → stands_at s (calls ++ repair s (run s calls).memory.flags (log s calls).rows.written) i ≡ wrote_at s calls i
  pub quiet :
      (run s (calls ++ repair s (run s calls).memory.flags (log s calls).rows.written ++ start z ∷ steps_with buffers)).memory.flags
      ≡ replicate s.rows 0

abbrev pub ShutdownClaim : Type 0
ShutdownClaim =
    (s : Shape) → Taken s → (calls : List Call) → EndedStill s calls → (log s calls).cycle.skip ≡ 0
    → ((i : ℕ) → i < s.rows → line_at s calls i ≡ 0)
    → ((i : ℕ) → i < s.rows → flag_at s calls i ≡ 0 → differences (wrote_at s calls i) (stands_at s calls i) ≤ s.errors)
    → (z : ℕ) → z < s.digits → (buffers : List (List ℕ)) → Buffers s buffers → length buffers ≡ cycle_steps z s → Shutdown z s calls buffers
