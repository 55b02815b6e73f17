-- What a job runs is the list of its calls: every row and every drift by its number, and the cycle step by step. Assumes nothing.
use mathlib.Core.Path.{◌≡◌, refl, sym, ◌∙◌, ap}
use mathlib.Core.List.{List, [], ◌∷◌, ◌++◌}
use Prim.Native.Nat.{ℕ, zero, suc}
use lib.ListN.{replicate, length-replicate}
use Rattle.parity.specs.Lists.{tabulate}
use Rattle.parity.specs.Matrix.{cycle_steps}
use Rattle.parity.specs.declared.Shape.{Shape}
use Rattle.array_memory.specs.Lengths.{Sized}
use Rattle.array.specs.Calls.{drift_call}
use Rattle.cycle.specs.Calls.{State, on_memory, fresh, clear_call, program_call, step_call}
use Rattle.cycle_steps.specs.Steps.{after_steps}
use Rattle.cycle_run.specs.Cycles.{cycle_call}
use Rattle.call_lists.specs.Run.{Call, clear, program, drift, step, run_from, run}
use Rattle.call_lists.proofs.Runs.{run-append}
use Rattle.detection.proofs.Agreement.{sized}
use Rattle.detection.proofs.Detection.{agrees}
use Rattle.job_parse.specs.Parse.{job_shape, row_levels, drift_count, drift_row, drift_column, drift_level}
use Rattle.job.specs.Job.{after_programs, after_drifts, job_run}
use Rattle.job.proofs.TakenJob.{taken_job}
use Rattle.job.proofs.JobCalls.{cycle-gives}
use Rattle.job_lists.specs.Jobs.{program_calls, drift_calls, cycle_calls, job_calls, JobListClaim}

-- steps that have one buffer, one after the other
steps-run :
    (s : Shape) (matches : List ℕ) (n : ℕ) (st : State)
    → after_steps s st (replicate n matches) ≡ run_from s st (replicate n (step matches))
steps-run s matches zero st = refl
steps-run s matches (suc n) st = steps-run s matches n (step_call s st matches).state

module _ (input : List ℕ) where
  abbrev s : Shape
  s = job_shape input

  abbrev program_of : ℕ → Call
  program_of i = program i (row_levels input i)

  abbrev drift_of : ℕ → Call
  drift_of i = drift (drift_row input i) (drift_column input i) (drift_level input i)

  programs-run : (st : State) (n : ℕ) → after_programs input n st ≡ run_from s st (tabulate n program_of)
  programs-run st zero = refl
  programs-run st (suc n) =
      ap (λ st. (program_call s st n (row_levels input n)).state) (programs-run st n) ∙ sym (run-append s st (tabulate n program_of) (program_of n ∷ []))

  drifts-run : (st : State) (n : ℕ) → after_drifts input n st ≡ run_from s st (tabulate n drift_of)
  drifts-run st zero = refl
  drifts-run st (suc n) =
      ap (λ st. (on_memory (λ mem. drift_call s mem (drift_row input n) (drift_column input n) (drift_level input n)) st).state) (drifts-run st n)
      ∙ sym (run-append s st (tabulate n drift_of) (drift_of n ∷ []))

  -- all before the cycle
  abbrev opening : List Call
  opening = clear ∷ program_calls input ++ drift_calls input

  opening-run :
      after_drifts input (drift_count input) (after_programs input s.rows (clear_call s (fresh s)).state) ≡ run s opening
  unfolding run
  opening-run =
      let cleared = (clear_call s (fresh s)).state in
      drifts-run (after_programs input s.rows cleared) (drift_count input)
      ∙ ap (λ st. run_from s st (drift_calls input)) (programs-run cleared s.rows)
      ∙ sym (run-append s cleared (program_calls input) (drift_calls input))

pub job_list_claim : JobListClaim
unfolding job_run job_calls run
job_list_claim input none =
    let s = job_shape input in
    let matches : List ℕ = replicate s.rows 0 in
    let t = (taken_job input none).taken in
    let st = run s (opening input) in
    let lent : Sized s st.memory = sized s st _ (agrees s t (opening input)) in
    ap (λ st. (cycle_call s st 0 matches).state) (opening-run input)
    ∙ ap (λ r. r.state) (cycle-gives s t st lent matches (length-replicate s.rows 0))
    ∙ steps-run s matches (cycle_steps 0 s) _
    ∙ sym (run-append s (clear_call s (fresh s)).state (program_calls input ++ drift_calls input) (cycle_calls input))
