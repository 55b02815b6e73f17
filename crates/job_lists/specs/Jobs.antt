-- A job as a list of calls, and the theorems that carry demand 3 over to it, as types; the proofs are in proofs/.
use Rattle.std.specs.Prelude.{◌≡◌, List, ◌∷◌, ◌++◌, ℕ, ◌≤◌, ◌<◌, get_or, replicate}
use Rattle.parity.specs.Lists.{tabulate, differences}
use Rattle.parity.specs.Matrix.{cycle_steps}
use Rattle.call_lists.specs.Run.{Call, clear, start, program, drift, step, run}
use Rattle.detection.specs.Log.{log}
use Rattle.detection.specs.Claims.{EndedUnmarked, RightFlag, wrote_at, stands_at}
use Rattle.job_parse.specs.Parse.{job_shape, row_levels, drift_count, drift_row, drift_column, drift_level, job_refusal}
use Rattle.job.specs.Job.{job_state}

-- every row with its levels
abbrev pub program_calls : List ℕ → List Call
program_calls input = tabulate (job_shape input).rows (λ i. program i (row_levels input i))

-- the drifts
abbrev pub drift_calls : List ℕ → List Call
drift_calls input = tabulate (drift_count input) (λ i. drift (drift_row input i) (drift_column input i) (drift_level input i))

-- a start that skips no digit, and all the steps of its cycle
abbrev pub cycle_calls : List ℕ → List Call
cycle_calls input = let s = job_shape input in start 0 ∷ replicate (cycle_steps 0 s) (step (replicate s.rows 0))

-- it clears, programs every row, applies the drifts, runs one cycle
unfoldable pub job_calls : List ℕ → List Call
job_calls input = clear ∷ program_calls input ++ drift_calls input ++ cycle_calls input

-- A job that is taken leaves what this list of calls leaves: what holds after every list holds of it.
abbrev pub JobListClaim : Type 0
JobListClaim = (input : List ℕ) → job_refusal input ≡ 0 → job_state input ≡ run (job_shape input) (job_calls input)

-- In the list's log its cycle has ended, with document 01's mark off, and skips no digit: demand 3 tells its flags.
abbrev pub JobEndedClaim : Type 0
JobEndedClaim =
    (input : List ℕ) → job_refusal input ≡ 0 → let s = job_shape input in let calls = job_calls input in
    EndedUnmarked s calls × ((log s calls).cycle.skip ≡ 0)

-- So each row in which the drifts leave at most τ cells changed has flag 0, and is printed as ok, if they leave none changed, and flag 1 if some. Every
-- line is sound.
abbrev pub JobVerdictClaim : Type 0
JobVerdictClaim =
    (input : List ℕ) → job_refusal input ≡ 0 → let s = job_shape input in let calls = job_calls input in
    (i : ℕ) → i < s.rows → differences (wrote_at s calls i) (stands_at s calls i) ≤ s.errors
    → RightFlag 0 (wrote_at s calls i) (stands_at s calls i) (get_or (job_state input).memory.flags i 0)
