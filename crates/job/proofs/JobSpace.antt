-- What a job gives: nothing is done without room; a refused job writes its line; a job that is taken leaves what its calls leave, and writes
-- its report. Assumes nothing.
use mathlib.Core.Path.{◌≡◌, refl, sym, ◌∙◌, ap}
use mathlib.Core.Bool.{true, false, ◌&&◌, and-eq-true_iff}
use mathlib.Core.List.{List, ◌++◌}
use Prim.Native.Nat.{ℕ, ◌+◌, ◌≤◌, ◌<◌}
use native.Mathlib.Omega.{arith}
use lib.Dec.{leb}
use lib.ListN.{length, drop}
use borrow.Author.Tests.{leb-true}
use Rattle.parity.specs.Questions.{if_taken}
use Rattle.shape.specs.Answers.{Said, giving}
use Rattle.shape.proofs.Calling.{if_no}
use Rattle.cycle.specs.Calls.{State}
use Rattle.job_parse.specs.Parse.{job_shape, most_cells, job_refusal}
use Rattle.job_text.specs.Text.{refused_text}
use Rattle.job_text.specs.Written.{written, Wrote}
use Rattle.job.specs.Job.{job_run, job_state, job_matches, report_text, job_text, Space, space, most_rows, most_totals, most_text, enough, roomy}
use Rattle.job.specs.Job.{with_run, printed, job_call}

-- buffers that are long enough
pub record Room (sp : Space) : Type 0 where
  pub cells : most_cells ≤ length sp.cells
  pub lines : most_rows ≤ length sp.lines
  pub counters : most_rows ≤ length sp.counters
  pub flags : most_rows ≤ length sp.flags
  pub totals : most_totals ≤ length sp.totals
  pub matches : most_rows ≤ length sp.matches
  pub out : most_text ≤ length sp.out

pub room : (sp : Space) → roomy sp ≡ true → Room sp
unfolding enough
room sp e =
    let one = leb most_cells (length sp.cells) in
    let two = leb most_rows (length sp.lines) in
    let three = leb most_rows (length sp.counters) in
    let four = leb most_rows (length sp.flags) in
    let five = leb most_totals (length sp.totals) in
    let six = leb most_rows (length sp.matches) in
    let to-seven = (and-eq-true_iff (one && two && three && four && five && six) (leb most_text (length sp.out))).0 e in
    let to-six = (and-eq-true_iff (one && two && three && four && five) six).0 to-seven.0 in
    let to-five = (and-eq-true_iff (one && two && three && four) five).0 to-six.0 in
    let to-four = (and-eq-true_iff (one && two && three) four).0 to-five.0 in
    let to-three = (and-eq-true_iff (one && two) three).0 to-four.0 in
    let to-two = (and-eq-true_iff one two).0 to-three.0 in
    record {
      cells = leb-true most_cells _ to-two.0;
      lines = leb-true most_rows _ to-two.1;
      counters = leb-true most_rows _ to-three.1;
      flags = leb-true most_rows _ to-four.1;
      totals = leb-true most_totals _ to-five.1;
      matches = leb-true most_rows _ to-six.1;
      out = leb-true most_text _ to-seven.1;
    }

-- a buffer whose front part was lent
pub front-written : (new old : List ℕ) (n : ℕ) → length new ≡ n → written 0 new old ≡ new ++ drop n old
unfolding written
front-written new old n e = let size : 0 + length new ≡ n = omega arith in ap (λ n. new ++ drop n old) size

-- what a refusal makes of its number
of-refusal : {A : Type 0} (first n : ℕ) → (first ≡ n) × (0 < n) → (made : ℕ → A) (taken : A) → if_taken first taken (made first) ≡ made n
of-refusal first n fails made taken = ap (λ n. if_taken n taken (made n)) fails.0 ∙ if_no n fails.1 taken (made n)

module _ (input : List ℕ) (sp : Space) where
  pub no_room : roomy sp ≡ false → job_call input sp ≡ printed 0 sp
  unfolding job_call
  no_room e = rw e refl

  module _ (e : roomy sp ≡ true) where
    -- by what becomes of the other buffers, and by its text
    gives :
        (run : Space) → if_taken (job_refusal input) (with_run (job_matches input) (job_state input) sp) sp ≡ run → run.out ≡ sp.out
        → (text : List ℕ) → job_text input ≡ text → {end : ℕ} {after : List ℕ} → Wrote 0 text sp.out end after
        → job_call input sp ≡ printed end (space run.cells run.lines run.counters run.flags run.totals run.matches after)
    unfolding job_call
    gives run left out text same {end} {after} w =
        let size : length text ≡ end = omega (arith, w.place) in
        let bytes : written 0 text run.out ≡ after = ap (written 0 text) out ∙ sym w.bytes in
        rw (e, left, same) (λ i. printed (size i) (space run.cells run.lines run.counters run.flags run.totals run.matches (bytes i)))

    pub refused-job :
        (n : ℕ) → (job_refusal input ≡ n) × (0 < n) → {end : ℕ} {after : List ℕ} → Wrote 0 (refused_text n) sp.out end after
        → job_call input sp ≡ printed end (space sp.cells sp.lines sp.counters sp.flags sp.totals sp.matches after)
    unfolding job_text
    refused-job n fails w =
        gives sp (of-refusal (job_refusal input) n fails (λ n. sp) _) refl (refused_text n) (of-refusal (job_refusal input) n fails refused_text _) w

    -- the match bytes and the state of the job are those in hand
    pub taken-job :
        job_refusal input ≡ 0 → (said : Said ℕ) (matches : List ℕ) (st : State) → job_run input ≡ giving said matches st
        → {end : ℕ} {after : List ℕ} → Wrote 0 (report_text (job_shape input) st) sp.out end after
        → let run = with_run matches st sp in
        job_call input sp ≡ printed end (space run.cells run.lines run.counters run.flags run.totals run.matches after)
    unfolding job_text
    taken-job none said matches st ran w =
        gives (with_run matches st sp)
        (ap (λ n. if_taken n (with_run (job_matches input) (job_state input) sp) sp) none ∙ ap (λ r. with_run r.bytes r.state sp) ran) refl
        (report_text (job_shape input) st)
        (ap (λ n. if_taken n (report_text (job_shape input) (job_state input)) (refused_text n)) none ∙ ap (λ r. report_text (job_shape input) r.state) ran) w
