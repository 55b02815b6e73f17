-- The log of a job's calls: no call sets a line, the start is taken and sets the mark off, and the steps end the cycle. So demand 3 tells the job's flags.
-- Assumes nothing.
use mathlib.Core.Path.{◌≡◌, refl, sym, ◌∙◌, ap, subst}
use mathlib.Core.Bool.{false, cond}
use mathlib.Core.List.{List, [], ◌∷◌, ◌++◌}
use Prim.Native.Nat.{ℕ, zero, suc, ◌+◌}
use native.Mathlib.Omega.{arith}
use lib.Dec.{eqb}
use lib.ListN.{length, get_or, replicate, length-replicate}
use borrow.Author.Tests.{lt-ltb, eq-eqb, ne_eqb}
use Rattle.parity.specs.Lists.{tabulate}
use Rattle.parity.specs.Matrix.{lookups, cycle_steps}
use Rattle.parity.specs.Questions.{first_no, if_taken, Taken}
use Rattle.parity.specs.declared.Shape.{Shape}
use Rattle.parity.proofs.Alongside.{equal-alongside}
use Rattle.parity.proofs.Followed.{followed-append}
use Rattle.parity.proofs.ListLaws.{same_at}
use Rattle.parity.proofs.Taken.{limits}
use Rattle.shape.proofs.Calling.{if-either}
use Rattle.array_questions.specs.Questions.{start_arguments, step_arguments}
use Rattle.call_lists.specs.Run.{Call, start, program, drift, step}
use Rattle.detection.specs.Log.{open-cycle, ended, Log, blank, with_cycle, log_taken, log_step, while_open, arguments_of, log_call, log_from, log}
use Rattle.detection.specs.Claims.{RightFlag, wrote_at, stands_at, line_at, flag_at}
use Rattle.detection.proofs.Detection.{demand_claim}
use Rattle.job_parse.specs.Parse.{job_shape, row_levels, drift_count, drift_row, drift_column, drift_level}
use Rattle.job.specs.Job.{job_state}
use Rattle.job.proofs.TakenJob.{taken_job}
use Rattle.job_lists.specs.Jobs.{program_calls, drift_calls, cycle_calls, job_calls, JobEndedClaim, JobVerdictClaim}
use Rattle.job_lists.proofs.JobList.{job_list_claim}

module _ (s : Shape) where
  -- every line is sound
  abbrev Sound : Log → Type 0
  Sound l = l.rows.lines ≡ replicate s.rows 0

  -- .. and stays so in a list of calls by number that each leave the lines
  sound-list :
      (f : ℕ → Call) → ((l : Log) (i : ℕ) → (log_taken s l (f i)).rows.lines ≡ l.rows.lines) → (n : ℕ) (l : Log) → Sound l
      → Sound (log_from s l (tabulate n f))
  sound-list f kept zero l h = h
  sound-list f kept (suc n) l h =
      let before : Log = log_from s l (tabulate n f) in
      let so_far : Sound before = sound-list f kept n l h in
      subst Sound (sym (followed-append (log_call s) (tabulate n f) (f n ∷ []) l))
      (if-either Sound (first_no (arguments_of s (f n))) (log_taken s before (f n)) before (kept before n ∙ so_far) so_far)

  -- a cycle that skips no digit, open with count c or ended; the mark is off, and every line is sound
  pub record Open (c : ℕ) (l : Log) : Type 0 where
    pub course : l.cycle.course ≡ open-cycle
    pub skip : l.cycle.skip ≡ 0
    pub count : l.cycle.count ≡ c
    pub mark : l.marks.mark ≡ false
    pub lines : Sound l

  pub record Ended (l : Log) : Type 0 where
    pub course : l.cycle.course ≡ ended
    pub skip : l.cycle.skip ≡ 0
    pub mark : l.marks.mark ≡ false
    pub lines : Sound l

  -- a step with a buffer of its length, while the cycle is open
  abbrev zeros : Call
  zeros = step (replicate s.rows 0)

  stepped : (c : ℕ) (l : Log) → Open c l → log_call s l zeros ≡ with_cycle (cond (eqb (suc c) (cycle_steps 0 s)) ended open-cycle) 0 (suc c) l
  stepped c l o =
      let matches : List ℕ = replicate s.rows 0 in
      let sized : length matches ≡ s.rows = length-replicate s.rows 0 in
      let none : first_no (step_arguments s (length matches)) ≡ 0 =
      simp (equal-alongside (length matches ∷ []) (s.rows ∷ []) (λ i. sized i ∷ [])) in
      ap (λ n. if_taken n (while_open l.cycle.course (log_step s l) l) l) none
      ∙ ap (λ k. while_open k (log_step s l) l) o.course
      ∙ (λ i. with_cycle (cond (eqb (suc (o.count i)) (cycle_steps (o.skip i) s)) ended open-cycle) (o.skip i) (suc (o.count i)) l)

  -- all the steps that are left
  ends : (n c : ℕ) (l : Log) → c + suc n ≡ cycle_steps 0 s → Open c l → Ended (log_from s l (replicate (suc n) zeros))
  ends zero c l all o =
      let last : suc c ≡ cycle_steps 0 s = omega arith in
      rw (stepped c l o)
      (record { course = ap (λ b. cond b ended open-cycle) (eq-eqb (suc c) (cycle_steps 0 s) last); skip = refl; mark = o.mark; lines = o.lines })
  ends (suc n) c l all o =
      let more : eqb (suc c) (cycle_steps 0 s) ≡ false = ne_eqb (suc c) (cycle_steps 0 s) (λ e. omega arith) in
      let next : Open (suc c) (log_call s l zeros) = rw (stepped c l o)
      (record { course = ap (λ b. cond b ended open-cycle) more; skip = refl; count = refl; mark = o.mark; lines = o.lines }) in
      ends n (suc c) (log_call s l zeros) (omega arith) next

  -- a whole cycle
  cycle-ends : Taken s → (l : Log) → Sound l → Ended (log_from s l (start 0 ∷ replicate (cycle_steps 0 s) zeros))
  cycle-ends t l h =
      let none : first_no (start_arguments s 0) ≡ 0 = simp (lt-ltb 0 s.digits (limits s t).digits_low) in
      let opened : Open 0 (log_call s l (start 0)) =
      subst (λ n. Open 0 (if_taken n (log_taken s l (start 0)) l)) (sym none)
      (record { course = refl; skip = refl; count = refl; mark = refl; lines = h }) in
      ends (suc (lookups 0 s)) 0 (log_call s l (start 0)) (omega arith) opened

  sound-blank : Sound (blank s)
  unfolding blank
  sound-blank = refl

-- the log of a job's calls
job-ends : (input : List ℕ) → Taken (job_shape input) → Ended (job_shape input) (log (job_shape input) (job_calls input))
unfolding log job_calls
job-ends input t =
    let s = job_shape input in
    let programmed : Log = log_from s (blank s) (program_calls input) in
    let drifted : Log = log_from s programmed (drift_calls input) in
    let sound : Sound s drifted =
    sound-list s (λ i. drift (drift_row input i) (drift_column input i) (drift_level input i)) (λ l i. refl) (drift_count input) programmed
    (sound-list s (λ i. program i (row_levels input i)) (λ l i. refl) s.rows (blank s) (sound-blank s)) in
    subst (Ended s)
    (sym
    (followed-append (log_call s) (program_calls input ++ drift_calls input) (cycle_calls input) (blank s)
    ∙ ap (λ l. log_from s l (cycle_calls input)) (followed-append (log_call s) (program_calls input) (drift_calls input) (blank s))))
    (cycle-ends s t drifted sound)

pub job_ended_claim : JobEndedClaim
job_ended_claim input none = let e = job-ends input (taken_job input none).taken in ((e.course, e.mark), e.skip)

pub job_verdict_claim : JobVerdictClaim
job_verdict_claim input none i h near =
    let s = job_shape input in
    let calls = job_calls input in
    let t = (taken_job input none).taken in
    let e = job-ends input t in
    let line : line_at s calls i ≡ 0 = ap (λ lines. get_or lines i 0) e.lines ∙ same_at {A = ℕ} s.rows i 0 in
    let flag : flag_at s calls i ≡ get_or (job_state input).memory.flags i 0 = ap (λ st. get_or st.memory.flags i 0) (sym (job_list_claim input none)) in
    let right = (demand_claim s t calls e.skip).verdict (e.course, e.mark) i h near in
    subst (λ line. RightFlag line (wrote_at s calls i) (stands_at s calls i) (get_or (job_state input).memory.flags i 0)) line
    (subst (RightFlag (line_at s calls i) (wrote_at s calls i) (stands_at s calls i)) flag right)
