-- The claim is not empty: four lists at a small shape (ρ 2, b 1, τ 1, k 1, m 2: n is 2 and a cycle has 4 steps), two there with a drift in a cycle,
-- six with lines, and four with coarse cycles at a shape of three digits, with what they leave; there the openings themselves, on a dead and on a shorted
-- line; ask and commit at both shapes; the numbers of refused calls, and what calls and many steps give.
use Rattle.std.specs.Prelude.{◌≡◌, Bool, true, false, List, [], ◌∷◌, ◌++◌, map, ℕ, replicate}
use Rattle.parity.specs.Matrix.{cycle_steps}
use Rattle.parity.specs.declared.Shape.{Shape}
use Rattle.array.specs.Calls.{line_call}
use Rattle.array_lookup.specs.Lookups.{lookup_call, first_call}
use Rattle.shape.specs.Answers.{Result, row}
use Rattle.cycle.specs.Calls.{State, step_call}
use Rattle.cycle_steps.specs.Steps.{steps_call}
use Rattle.call_lists.specs.Run.{Call, start, program, ask, commit, drift, line, lookup, step, call_of, run}
use Rattle.detection.specs.Log.{LogCycle, LogMarks, none, ended, log}
use Rattle.detection.specs.Commits.{asks, commits}

abbrev pub small : Shape
small = record { radix = 2; digits = 1; errors = 1; width = 1; rows = 2 }

-- what is looked at after a list: the flags, the lines, and the log's cycle and marks
pub record Seen : Type 0 where
  pub flags : List ℕ
  pub lines : List ℕ
  pub cycle : LogCycle
  pub marks : LogMarks

abbrev pub seen : Shape → List Call → Seen
seen s calls =
    record { flags = (run s calls).memory.flags; lines = (run s calls).memory.lines; cycle = (log s calls).cycle; marks = (log s calls).marks }

-- a step with a buffer of two bytes
abbrev pub step_two : Call
step_two = step (7 ∷ 7 ∷ [])

-- a whole cycle at the small shape
abbrev pub four_steps : List Call
four_steps = replicate 4 step_two

-- Row 1 is drifted before the cycle; no row is drifted; a refused drift and a refused step stand between the cycle's steps; and after a drift of row 1
-- a task lookup, a refused program and a second start stand inside the cycle, and a step after its end.
unfoldable pub examples : List (List Call)
examples =
    (program 1 (1 ∷ []) ∷ drift 1 0 0 ∷ start 0 ∷ four_steps)
    ∷ (program 1 (1 ∷ []) ∷ start 0 ∷ four_steps)
    ∷ (program 1 (1 ∷ []) ∷ start 0 ∷ step_two ∷ step_two ∷ drift 2 0 0 ∷ step (7 ∷ []) ∷ step_two ∷ step_two ∷ [])
    ∷ (program 1 (1 ∷ [])
    ∷ drift 1 1 0
    ∷ start 0
    ∷ step_two
    ∷ lookup (1 ∷ []) (7 ∷ 7 ∷ [])
    ∷ program 2 (1 ∷ [])
    ∷ start 0
    ∷ four_steps
    ++ step_two
    ∷ [])
    ∷ []

-- a cycle with z that has ended at this count, with these flags, lines and marks
abbrev pub ended_at : ℕ → ℕ → List ℕ → List ℕ → Bool → Bool → Seen
ended_at z count flags lines mark changed =
    record {
      flags = flags;
      lines = lines;
      cycle = record { course = ended; skip = z; count = count };
      marks = record { mark = mark; changed = changed };
    }

-- .. with sound lines and both marks off
abbrev pub ended_with : ℕ → ℕ → List ℕ → Seen
ended_with z count flags = ended_at z count flags (0 ∷ 0 ∷ []) false false

abbrev pub ExamplesClaim : Type 0
ExamplesClaim =
    map (seen small) examples
    ≡ ended_with 0 4 (0 ∷ 1 ∷ []) ∷ ended_with 0 4 (0 ∷ 0 ∷ []) ∷ ended_with 0 4 (0 ∷ 0 ∷ []) ∷ ended_with 0 4 (0 ∷ 1 ∷ []) ∷ []

-- ---- drifts in a cycle

-- Row 1 holds a 1. After the openings, its rule cell is drifted to a level.
unfoldable pub drifting : ℕ → List Call
drifting level = program 1 (1 ∷ []) ∷ start 0 ∷ step_two ∷ step_two ∷ drift 1 0 level ∷ step_two ∷ step_two ∷ []

-- To the level that stands it puts document 01's mark on and not the weaker one, and the flag is right; to another it puts both on.
abbrev pub DriftExamplesClaim : Type 0
DriftExamplesClaim =
    map (λ level. seen small (drifting level)) (1 ∷ 0 ∷ [])
    ≡ ended_at 0 4 (0 ∷ 0 ∷ []) (0 ∷ 0 ∷ []) true false
    ∷ ended_at 0 4 (0 ∷ 1 ∷ []) (0 ∷ 0 ∷ []) true true
    ∷ []

-- ---- lines

-- Row 1's line is dead before the cycle; it dies in a cycle, after the openings; in a cycle it is set to what it was; it dies and is sound again, after
-- which a setting is refused; it is shorted before the cycle; and it is shorted in a cycle, after the openings.
unfoldable pub line_examples : List (List Call)
line_examples =
    (line 1 1 ∷ start 0 ∷ four_steps)
    ∷ (start 0 ∷ step_two ∷ step_two ∷ line 1 1 ∷ step_two ∷ step_two ∷ [])
    ∷ (line 1 1 ∷ start 0 ∷ step_two ∷ line 1 1 ∷ step_two ∷ step_two ∷ step_two ∷ [])
    ∷ (line 1 1 ∷ line 1 0 ∷ line 1 3 ∷ start 0 ∷ four_steps)
    ∷ (line 1 2 ∷ start 0 ∷ four_steps)
    ∷ (start 0 ∷ step_two ∷ step_two ∷ line 1 2 ∷ step_two ∷ step_two ∷ [])
    ∷ []

-- A dead line is flagged, and so is a shorted one. One that dies or is shorted in the middle is not, and both marks say so. One that is set to what it was
-- puts document 01's mark on and not the weaker one, and the flag is right.
abbrev pub LineExamplesClaim : Type 0
LineExamplesClaim =
    map (seen small) line_examples
    ≡ ended_at 0 4 (0 ∷ 1 ∷ []) (0 ∷ 1 ∷ []) false false
    ∷ ended_at 0 4 (0 ∷ 0 ∷ []) (0 ∷ 1 ∷ []) true true
    ∷ ended_at 0 4 (0 ∷ 1 ∷ []) (0 ∷ 1 ∷ []) true false
    ∷ ended_at 0 4 (0 ∷ 0 ∷ []) (0 ∷ 0 ∷ []) false false
    ∷ ended_at 0 4 (0 ∷ 1 ∷ []) (0 ∷ 2 ∷ []) false false
    ∷ ended_at 0 4 (0 ∷ 0 ∷ []) (0 ∷ 2 ∷ []) true true
    ∷ []

-- ---- coarse cycles

abbrev pub three_digits : Shape
three_digits = record { radix = 2; digits = 3; errors = 1; width = 3; rows = 2 }

-- One cell of row 0 drifts from 1 to 0 and one of row 1 from 0 to 4; then a whole cycle is run with z.
unfoldable pub coarse_cycle : ℕ → List Call
coarse_cycle z = program 0 (5 ∷ 2 ∷ 1 ∷ []) ∷ drift 0 2 0 ∷ drift 1 2 4 ∷ start z ∷ replicate (cycle_steps z three_digits) step_two

-- With z = 0 the cycle has 30 steps and flags both rows; with 1 it has 14, with 2 it has 6, and the small drift is not seen. With 3, which is b,
-- the start is refused.
abbrev pub CoarseExamplesClaim : Type 0
CoarseExamplesClaim =
    map (λ z. seen three_digits (coarse_cycle z)) (0 ∷ 1 ∷ 2 ∷ 3 ∷ [])
    ≡ ended_with 0 30 (1 ∷ 1 ∷ [])
    ∷ ended_with 1 14 (0 ∷ 1 ∷ [])
    ∷ ended_with 2 6 (0 ∷ 1 ∷ [])
    ∷ record {
      flags = 0 ∷ 0 ∷ [];
      lines = 0 ∷ 0 ∷ [];
      cycle = record { course = none; skip = 0; count = 0 };
      marks = record { mark = true; changed = true };
    }
    ∷ []

-- ---- the openings

-- the state after a start, row 1's line being dead
abbrev pub opening_calls : List Call
opening_calls = line 1 1 ∷ start 0 ∷ []

-- The first step of the cycle gives match bytes 1 0 and flags 0 1, leaves the counters, and has count 1.
pub record OpeningExampleClaim : Type 0 where
  pub matches : (step_call three_digits (run three_digits opening_calls) (7 ∷ 7 ∷ [])).bytes ≡ 1 ∷ 0 ∷ []
  pub flags : (step_call three_digits (run three_digits opening_calls) (7 ∷ 7 ∷ [])).state.memory.flags ≡ 0 ∷ 1 ∷ []
  pub counters : (step_call three_digits (run three_digits opening_calls) (7 ∷ 7 ∷ [])).state.memory.counters ≡ 0 ∷ 0 ∷ []
  pub count : (step_call three_digits (run three_digits opening_calls) (7 ∷ 7 ∷ [])).state.cycle.count ≡ 1

-- row 0 holds 5 2 1, and row 1's line is shorted
abbrev pub shorted : List Call
shorted = program 0 (5 ∷ 2 ∷ 1 ∷ []) ∷ line 1 2 ∷ []

-- the step after so many others of a cycle there
abbrev pub shorted_step : ℕ → Result State
shorted_step c = step_call three_digits (run three_digits (shorted ++ start 0 ∷ replicate c step_two)) (7 ∷ 7 ∷ [])

-- what that step leaves: the match bytes, the flags, the counters and the count
abbrev pub shorted_seen : ℕ → List (List ℕ)
shorted_seen c =
    let r = shorted_step c in
    r.bytes ∷ r.state.memory.flags ∷ r.state.memory.counters ∷ (r.state.cycle.count ∷ []) ∷ []

-- A line byte of 3 gets 16. A lookup of 8 0 0, with q in column 0, matches row 1 alone, one of 9 0 0 gets 8, and the first match of 6 0 0 is row 1. The first
-- step leaves the flags, the second flags row 1, neither counts, and the cycle ends at step 30 with these flags.
pub record ShortedExampleClaim : Type 0 where
  pub refused : (line_call three_digits (run three_digits []).memory 1 3).said.number ≡ 16
  pub looked : (lookup_call three_digits (run three_digits shorted).memory (8 ∷ 0 ∷ 0 ∷ []) (7 ∷ 7 ∷ [])).bytes ≡ 0 ∷ 1 ∷ []
  pub high : (lookup_call three_digits (run three_digits shorted).memory (9 ∷ 0 ∷ 0 ∷ []) (7 ∷ 7 ∷ [])).said.number ≡ 8
  pub found : (first_call three_digits (run three_digits shorted).memory (6 ∷ 0 ∷ 0 ∷ [])).value ≡ row 1
  pub first : shorted_seen 0 ≡ (1 ∷ 1 ∷ []) ∷ (0 ∷ 0 ∷ []) ∷ (0 ∷ 0 ∷ []) ∷ (1 ∷ []) ∷ []
  pub second : shorted_seen 1 ≡ (0 ∷ 1 ∷ []) ∷ (0 ∷ 1 ∷ []) ∷ (0 ∷ 0 ∷ []) ∷ (2 ∷ []) ∷ []
  pub ended : seen three_digits (shorted ++ start 0 ∷ replicate 30 step_two) ≡ ended_at 0 30 (0 ∷ 1 ∷ []) (0 ∷ 2 ∷ []) false false

-- ---- ask and commit

-- in an open cycle after its openings, row 1 holding a 1
abbrev pub opened : List Call
opened = program 1 (1 ∷ []) ∷ start 0 ∷ step_two ∷ step_two ∷ []

-- There row 1 is asked about for a 0, it drifts, and the cycle steps; then the row is written, or is not, and a whole cycle is run.
unfoldable pub asking : List Call → List Call
asking writing = opened ++ ask 1 (0 ∷ []) (7 ∷ 7 ∷ []) ∷ drift 1 0 0 ∷ step_two ∷ writing ++ start 0 ∷ four_steps

-- The finished row is 0 0, and both its cells differ. Its commit and the programming of its level leave the same; without either the drift is flagged.
pub record AskExampleClaim : Type 0 where
  pub changed : (asks small opened 1 (0 ∷ []) (7 ∷ 7 ∷ [])).said.value ≡ 2
  pub finished : (asks small opened 1 (0 ∷ []) (7 ∷ 7 ∷ [])).bytes ≡ 0 ∷ 0 ∷ []
  pub left :
      map (λ writing. seen small (asking writing)) ((commit 1 (0 ∷ 0 ∷ []) ∷ []) ∷ (program 1 (0 ∷ []) ∷ []) ∷ [] ∷ [])
      ≡ ended_with 0 4 (0 ∷ 0 ∷ []) ∷ ended_with 0 4 (0 ∷ 0 ∷ []) ∷ ended_with 0 4 (0 ∷ 1 ∷ []) ∷ []

-- Of a row that holds 5 2 1 6, two cells would change to 4 3 1 6. A row that isn't sound gets 17, and one with a cell of q gets 8 before it.
abbrev pub held : List Call
held = program 0 (5 ∷ 2 ∷ 1 ∷ []) ∷ []

pub record CommitExampleClaim : Type 0 where
  pub changed : (asks three_digits held 0 (4 ∷ 3 ∷ 1 ∷ []) (7 ∷ 7 ∷ 7 ∷ 7 ∷ [])).said.value ≡ 2
  pub finished : (asks three_digits held 0 (4 ∷ 3 ∷ 1 ∷ []) (7 ∷ 7 ∷ 7 ∷ 7 ∷ [])).bytes ≡ 4 ∷ 3 ∷ 1 ∷ 6 ∷ []
  pub unsound : (commits three_digits held 0 (5 ∷ 2 ∷ 0 ∷ 6 ∷ [])).said.number ≡ 17
  pub high : (commits three_digits held 0 (8 ∷ 0 ∷ 0 ∷ 0 ∷ [])).said.number ≡ 8

-- ---- the numbers of refused calls

-- in an open cycle: a step and a lookup with a buffer of one byte; a row and a column that are not there; a level of q, beside a row that is there and
-- one that is not; an input of q + 1; a level of q asked about, beside both; all digits skipped; a line byte of 3, beside a row that is there and one that
-- is not; and a row that isn't sound
unfoldable pub refused_calls : List Call
refused_calls =
    step (7 ∷ [])
    ∷ lookup (1 ∷ []) (7 ∷ [])
    ∷ program 2 (1 ∷ [])
    ∷ drift 1 2 0
    ∷ drift 1 0 2
    ∷ drift 2 0 2
    ∷ lookup (3 ∷ []) (7 ∷ 7 ∷ [])
    ∷ ask 1 (2 ∷ []) (7 ∷ 7 ∷ [])
    ∷ ask 2 (2 ∷ []) (7 ∷ 7 ∷ [])
    ∷ start 1
    ∷ line 1 3
    ∷ line 2 3
    ∷ commit 1 (1 ∷ 0 ∷ [])
    ∷ []

-- the number that a call gives after a list of calls
abbrev pub number_after : List Call → Call → ℕ
number_after calls c = (call_of small (run small calls) c).said.number

-- A step gets 9 where no cycle is open and where one has ended.
pub record RefusedExampleClaim : Type 0 where
  pub numbers : map (number_after opened) refused_calls ≡ 6 ∷ 6 ∷ 7 ∷ 7 ∷ 8 ∷ 7 ∷ 8 ∷ 8 ∷ 7 ∷ 15 ∷ 16 ∷ 7 ∷ 17 ∷ []
  pub closed : map (λ calls. number_after calls step_two) ([] ∷ (start 0 ∷ four_steps) ∷ []) ≡ 9 ∷ 9 ∷ []

-- ---- what calls in a list give

-- in an open cycle, row 1 holding a 1: a task lookup of 1 matches row 1 alone, one of 2, which is q, matches no row, and row 1 would change in both cells
-- to hold a 0
pub record AnsweredExampleClaim : Type 0 where
  pub matched : (call_of small (run small opened) (lookup (1 ∷ []) (7 ∷ 7 ∷ []))).bytes ≡ 0 ∷ 1 ∷ []
  pub counted : (call_of small (run small opened) (lookup (1 ∷ []) (7 ∷ 7 ∷ []))).said.value ≡ 1
  pub unmatched : (call_of small (run small opened) (lookup (2 ∷ []) (7 ∷ 7 ∷ []))).bytes ≡ 0 ∷ 0 ∷ []
  pub finished : (call_of small (run small opened) (ask 1 (0 ∷ []) (7 ∷ 7 ∷ []))).bytes ≡ 0 ∷ 0 ∷ []
  pub changed : (call_of small (run small opened) (ask 1 (0 ∷ []) (7 ∷ 7 ∷ []))).said.value ≡ 2
  pub stepped : (call_of small (run small opened) step_two).bytes ≡ 0 ∷ 1 ∷ []

-- ---- many steps

-- a cycle is open, and none of its steps has been made
abbrev pub begun : List Call
begun = program 1 (1 ∷ []) ∷ start 0 ∷ []

-- at most n steps after a list of calls
abbrev pub steps_after : List Call → ℕ → Result State
steps_after calls n = steps_call small (run small calls) n (7 ∷ 7 ∷ [])

-- Two steps are left in that cycle. With 0 nothing is done; with 2 and with more it ends; and where it has ended every number is refused with 9. Four are
-- left after a start: the two openings are among them.
pub record StepsExampleClaim : Type 0 where
  pub counts : map (λ n. (steps_after opened n).state.cycle.count) (0 ∷ 1 ∷ 2 ∷ 9 ∷ []) ≡ 2 ∷ 3 ∷ 4 ∷ 4 ∷ []
  pub all : map (λ n. (steps_after begun n).state.cycle.count) (0 ∷ 1 ∷ 2 ∷ 3 ∷ 9 ∷ []) ≡ 0 ∷ 1 ∷ 2 ∷ 3 ∷ 4 ∷ []
  pub all_matches : map (λ n. (steps_after begun n).bytes) (1 ∷ 2 ∷ 3 ∷ 9 ∷ []) ≡ (1 ∷ 1 ∷ []) ∷ (0 ∷ 0 ∷ []) ∷ (0 ∷ 1 ∷ []) ∷ (0 ∷ 1 ∷ []) ∷ []
  pub matches : map (λ n. (steps_after opened n).bytes) (0 ∷ 1 ∷ 2 ∷ 9 ∷ []) ≡ (7 ∷ 7 ∷ []) ∷ (0 ∷ 1 ∷ []) ∷ (0 ∷ 1 ∷ []) ∷ (0 ∷ 1 ∷ []) ∷ []
  pub taken : map (λ n. (steps_after opened n).said.number) (0 ∷ 1 ∷ 2 ∷ 9 ∷ []) ≡ 0 ∷ 0 ∷ 0 ∷ 0 ∷ []
  pub ended : map (λ n. (steps_after (opened ++ step_two ∷ step_two ∷ []) n).said.number) (0 ∷ 1 ∷ 9 ∷ []) ≡ 9 ∷ 9 ∷ 9 ∷ []
