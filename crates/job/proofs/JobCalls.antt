-- A job's calls, one after the other: a clear leaves the fresh array, programming an idle array leaves it idle, and a cycle leaves the same whatever its
-- buffer for match bytes holds. So what each call leaves of what the one before left is what the job runs. Assumes nothing.
use mathlib.Core.Path.{◌≡◌, refl, sym, ◌∙◌, ap}
use mathlib.Core.List.{List, [], ◌∷◌}
use Prim.Native.Nat.{ℕ, zero, suc}
use lib.ListN.{length, replicate, length-replicate}
use borrow.Author.Tests.{lt-ltb}
use Rattle.parity.specs.Matrix.{cycle_steps}
use Rattle.parity.specs.Questions.{first_no, if_taken, Taken}
use Rattle.parity.specs.declared.Shape.{Shape}
use Rattle.parity.proofs.Alongside.{equal-alongside}
use Rattle.parity.proofs.Taken.{limits}
use Rattle.shape.specs.Answers.{Result, accepted, refused, giving, calling}
use Rattle.shape.proofs.Calling.{call-done, call-keeps}
use Rattle.array_memory.specs.Lengths.{Sized}
use Rattle.array_memory.specs.Memory.{Memory}
use Rattle.array_questions.specs.Questions.{start_arguments}
use Rattle.cycle.specs.Record.{idle}
use Rattle.cycle.specs.Calls.{State, state_of, zero_rows, cleared, fresh, clear_call, program_call, start_call}
use Rattle.cycle.specs.Calls.{step_questions, step_matches, stepped, step_call}
use Rattle.cycle.specs.Methods.{changing}
use Rattle.cycle.specs.declared.Changed.{Changed}
use Rattle.cycle.proofs.Asked.{clear-asked, lent-asked}
use Rattle.cycle.proofs.Steps.{fresh-sized}
use Rattle.cycle_steps.specs.Steps.{after_steps}
use Rattle.cycle_run.specs.Cycles.{cycle_questions, last_matches, cycle_call}
use Rattle.job_parse.specs.Parse.{job_shape, drift_count}
use Rattle.job.specs.Job.{after_programs, after_drifts, job_run}

module _ (s : Shape) where
  -- what programming gives of an idle array is idle
  pub program-left :
      (mem last : Memory) (row : ℕ) (given : List ℕ) (r : Changed) → program_call s (state_of mem idle) row given ≡ changing r [] last
      → (program_call s (state_of mem idle) row given).state ≡ state_of last idle
  unfolding program_call
  program-left mem last row given r e =
      ap (λ r. r.state) e
      ∙ ap (state_of last) (sym (ap (λ r. r.state.cycle) e) ∙ call-keeps _ [] (state_of mem idle) _ (λ st. st.cycle ≡ idle) refl refl)

  -- a step leaves the same whatever its buffer holds ..
  module _ (a b : List ℕ) (e : length a ≡ length b) where
    step_same : (st : State) → (step_call s st a).state ≡ (step_call s st b).state
    unfolding step_call calling
    step_same st = rw e (go (first_no (step_questions s st b)) _)
      where
        go :
            (n m : ℕ) → let done = giving (accepted 0) (step_matches s st) (stepped s st) in
            (if_taken n done (giving (refused 0 m) a st)).state ≡ (if_taken n done (giving (refused 0 m) b st)).state
        go zero m = refl
        go (suc n) m = refl

    steps-same : (n : ℕ) (st : State) → after_steps s st (replicate n a) ≡ after_steps s st (replicate n b)
    steps-same zero st = refl
    steps-same (suc n) st = steps-same n (step_call s st a).state ∙ ap (λ st. after_steps s st (replicate n b)) (step_same st)

  -- ---- calls that are taken
  module _ (t : Taken s) where
    -- a clear of buffers that have their lengths leaves the fresh array
    pub clear-gives : (st : State) → Sized s st.memory → clear_call s st ≡ giving (accepted 0) [] (fresh s)
    unfolding clear_call fresh cleared zero_rows
    clear-gives st z = call-done _ [] st _ (clear-asked s t st z)

    pub clear-left :
        (st : State) → Sized s st.memory → (r : Changed) (last : Memory) → clear_call s st ≡ changing r [] last → fresh s ≡ state_of last idle
    unfolding fresh
    clear-left st z r last e =
        let state : fresh s ≡ state_of last r.cycle = ap (λ r. r.state) (sym (clear-gives st z) ∙ e) in
        state ∙ ap (state_of last) (sym (ap (λ st. st.cycle) state))

    -- .. and so does a whole cycle
    module _ (st : State) (z : Sized s st.memory) where
      pub cycle-gives :
          (matches : List ℕ) → length matches ≡ s.rows
          → cycle_call s st 0 matches
          ≡ giving (accepted 0) (last_matches 0 s st.memory) (after_steps s (start_call s st 0).state (replicate (cycle_steps 0 s) matches))
      unfolding cycle_call
      cycle-gives matches l =
          let none : first_no (cycle_questions s st.memory 0 matches) ≡ 0 =
          lent-asked s t st z (start_arguments s 0) (length matches)
          ∙ simp (lt-ltb 0 s.digits (limits s t).digits_low, equal-alongside (length matches ∷ []) (s.rows ∷ []) (λ i. l i ∷ [])) in
          call-done (cycle_questions s st.memory 0 matches) matches st _ none

      cycle-same : (a b : List ℕ) → length a ≡ s.rows → length b ≡ s.rows → cycle_call s st 0 a ≡ cycle_call s st 0 b
      cycle-same a b l m =
          cycle-gives a l
          ∙ ap (giving (accepted 0) (last_matches 0 s st.memory)) (steps-same a b (l ∙ sym m) (cycle_steps 0 s) (start_call s st 0).state)
          ∙ sym (cycle-gives b m)

-- ---- a job, by what its calls leave, made one after the other
module _ (input : List ℕ) (s : Shape) (same : s ≡ job_shape input) (t : Taken s) where
  pub job-ended :
      (mem programmed drifted : Memory) → fresh s ≡ state_of mem idle
      → after_programs input s.rows (state_of mem idle) ≡ state_of programmed idle
      → after_drifts input (drift_count input) (state_of programmed idle) ≡ state_of drifted idle
      → Sized s drifted → (given : List ℕ) → length given ≡ s.rows
      → (r : Result State) → cycle_call s (state_of drifted idle) 0 given ≡ r → job_run input ≡ r
  unfolding job_run
  job-ended mem programmed drifted f p d z given l r ran =
      let drifts = after_drifts input (drift_count input) in
      ap (λ s. cycle_call s (drifts (after_programs input s.rows (clear_call s (fresh s)).state)) 0 (replicate s.rows 0)) (sym same)
      ∙ ap (λ st. cycle_call s (drifts (after_programs input s.rows st)) 0 (replicate s.rows 0))
      (ap (λ r. r.state) (clear-gives s t (fresh s) (fresh-sized s)) ∙ f)
      ∙ ap (λ st. cycle_call s (drifts st) 0 (replicate s.rows 0)) p
      ∙ ap (λ st. cycle_call s st 0 (replicate s.rows 0)) d
      ∙ cycle-same s t (state_of drifted idle) z (replicate s.rows 0) given (length-replicate s.rows 0) l
      ∙ ran
