-- A job's questions in four parts, as they are asked: on its frame, its shape, its contents and its drifts. What the parts without a no tell
-- of the length, and what a no of each part answers. Assumes nothing.
use mathlib.Core.Path.{◌≡◌, refl, ◌∙◌}
use mathlib.Core.Bool.{◌&&◌, and-eq-true_iff}
use mathlib.Core.List.{List, ◌++◌}
use Prim.Native.Nat.{ℕ, ◌+◌, ◌-◌, ◌*◌, ◌≤◌, ◌<◌}
use native.Mathlib.Omega.{arith}
use lib.Dec.{eqb, leb}
use lib.ListN.{length}
use borrow.Author.Tests.{leb-true, eqb-true}
use Rattle.parity.specs.Questions.{Question, first_no, shape_questions, Taken}
use Rattle.parity.specs.declared.Shape.{Shape}
use Rattle.parity.proofs.Taken.{first-yes}
use Rattle.shape.specs.declared.sizes.Sizes.{Sizes}
use Rattle.shape.specs.Answers.{Said, accepted, refused}
use Rattle.shape.specs.Shapes.{sizes_of, no_sizes, sizes_if}
use Rattle.shape.proofs.Refusals.{first_rest, first_found, taken-rest, says-number, says-sizes}
use Rattle.job_parse.specs.Parse.{four_at, job_shape, level_count, drift_count, drift_start}
use Rattle.job_parse.specs.Parse.{most_bytes, size_question, version_question, frame_question, cells_question, contents_question}
use Rattle.job_parse.specs.Parse.{frame_questions, contents_questions, drift_questions, job_questions, job_refusal}

module _ (input : List ℕ) where
  abbrev s : Shape
  s = job_shape input

  -- ---- what the parts without a no tell of the length

  pub frame-yes : first_no (frame_questions input) ≡ 0 → (13 ≤ length input) × (length input ≤ most_bytes)
  frame-yes e =
      let size = first-yes (size_question input).holds _ 10 (omega arith) e in
      let version = first-yes (version_question input).holds _ 11 (omega arith) size.1 in
      let last = first-yes (frame_question input).holds 0 12 (omega arith) version.1 in
      let parts = (and-eq-true_iff (leb 5 (length input) && eqb (four_at input 1) (length input - 5)) (leb 8 (length input - 5))).0 last.0 in
      let rest = leb-true 8 (length input - 5) parts.1 in
      (omega arith, leb-true (length input) most_bytes size.0)

  pub contents-yes : first_no (contents_questions input) ≡ 0 → length input ≡ drift_start input (drift_count input)
  contents-yes e =
      let cells = first-yes (cells_question input).holds _ 13 (omega arith) e in
      let rest = first-yes (contents_question input).holds _ 14 (omega arith) cells.1 in
      let size = 8 + level_count input + 4 * drift_count input in
      let parts = (and-eq-true_iff (leb (8 + level_count input) (length input - 5)) (eqb (length input - 5) size)).0 rest.0 in
      let low = leb-true (8 + level_count input) (length input - 5) parts.0 in
      let same = eqb-true (length input - 5) size parts.1 in
      omega arith

  -- ---- what is answered, part by part

  abbrev after_shape : List Question
  after_shape = contents_questions input ++ drift_questions input

  abbrev Answers : Said Sizes → Type 0
  Answers said = said ≡ sizes_if (job_refusal input) s

  -- a first no of the job
  number : (n : ℕ) → (first_no (job_questions input) ≡ n) × (0 < n) → Answers (refused no_sizes n)
  unfolding job_refusal
  number n e = says-number (job_questions input) s n e

  pub frame-no : (n : ℕ) → (first_no (frame_questions input) ≡ n) × (0 < n) → Answers (refused no_sizes n)
  unfolding job_questions
  frame-no n e = number n (first_found (frame_questions input) (shape_questions s ++ after_shape) n e.1 e.0, e.1)

  module _ (f : first_no (frame_questions input) ≡ 0) where
    shape-first : first_no (job_questions input) ≡ first_no (shape_questions s ++ after_shape)
    unfolding job_questions
    shape-first = first_rest (frame_questions input) (shape_questions s ++ after_shape) refl f

    pub shape-no : (n : ℕ) → (first_no (shape_questions s) ≡ n) × (0 < n) → Answers (refused no_sizes n)
    shape-no n e = number n (shape-first ∙ first_found (shape_questions s) after_shape n e.1 e.0, e.1)

    module _ (t : Taken s) where
      contents-first : first_no (job_questions input) ≡ first_no after_shape
      contents-first = shape-first ∙ taken-rest s t after_shape

      pub contents-no : (n : ℕ) → (first_no (contents_questions input) ≡ n) × (0 < n) → Answers (refused no_sizes n)
      contents-no n e = number n (contents-first ∙ first_found (contents_questions input) (drift_questions input) n e.1 e.0, e.1)

      module _ (c : first_no (contents_questions input) ≡ 0) where
        drifts-first : first_no (job_questions input) ≡ first_no (drift_questions input)
        drifts-first = contents-first ∙ first_rest (contents_questions input) (drift_questions input) refl c

        pub drifts-no : (n : ℕ) → (first_no (drift_questions input) ≡ n) × (0 < n) → Answers (refused no_sizes n)
        drifts-no n e = number n (drifts-first ∙ e.0, e.1)

        pub none : first_no (drift_questions input) ≡ 0 → (z : Sizes) → z ≡ sizes_of s → Answers (accepted z)
        unfolding job_refusal
        none e z same = says-sizes (job_questions input) s (record { none = drifts-first ∙ e; sizes = same })
