-- What it says of a job that none of its questions has a no: its shape is taken, its length is that of its contents, and its cells are few
-- enough. Assumes nothing.
use mathlib.Core.Path.{◌≡◌, refl}
use mathlib.Core.List.{List, ◌++◌}
use Prim.Native.Nat.{ℕ, ◌≤◌}
use native.Mathlib.Omega.{arith}
use lib.ListN.{length}
use borrow.Author.Tests.{leb-true}
use Rattle.parity.specs.Shape.{cell_count}
use Rattle.parity.specs.Questions.{shape_questions, shape_refusal, Taken}
use Rattle.parity.proofs.Taken.{first-yes}
use Rattle.shape.proofs.Refusals.{first-none}
use Rattle.job_parse.specs.Parse.{job_shape, drift_count, drift_start, most_bytes, most_cells}
use Rattle.job_parse.specs.Parse.{frame_questions, cells_question, contents_questions, drift_questions, job_questions, job_refusal}
use Rattle.job_parse.proofs.JobQuestions.{frame-yes, contents-yes}

pub record TakenJob (input : List ℕ) : Type 0 where
  pub taken : Taken (job_shape input)
  pub sized : length input ≡ drift_start input (drift_count input)
  pub short : length input ≤ most_bytes
  pub cells : cell_count (job_shape input) ≤ most_cells

pub taken_job : (input : List ℕ) → job_refusal input ≡ 0 → TakenJob input
unfolding job_refusal job_questions shape_refusal
taken_job input e =
    let more = contents_questions input ++ drift_questions input in
    let framed = first-none (frame_questions input) (shape_questions (job_shape input) ++ more) refl e in
    let shaped = first-none (shape_questions (job_shape input)) more refl framed.1 in
    let filled = first-none (contents_questions input) (drift_questions input) refl shaped.1 in
    record {
      taken = shaped.0;
      sized = contents-yes input filled.0;
      short = (frame-yes input framed.0).1;
      cells = leb-true (cell_count (job_shape input)) most_cells (first-yes (cells_question input).holds _ 13 (omega arith) filled.0).0;
    }
