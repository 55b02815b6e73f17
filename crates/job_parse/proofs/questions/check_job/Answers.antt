-- `job_parse::questions::check_job` meets its contract: each part of a job's questions is asked by one call. Assumes nothing.
use mathlib.Core.Path.{◌≡◌, sym, ◌∙◌, ap, subst}
use mathlib.Core.List.{List}
use Prim.Native.Nat.{ℕ, ◌<◌}
use Rattle.std.specs.Prelude.{⊤}
use Rattle.std.specs.declared.result.Result.{Result as Answer}
use Rattle.std.specs.declared.result.Result.TheVariants.{Ok, Err}
use Rattle.parity.specs.Questions.{first_no, shape_questions, shape_refusal, Taken}
use Rattle.parity.specs.declared.Shape.{Shape}
use Rattle.shape.specs.declared.answer.Refusal.{Refusal}
use Rattle.shape.specs.declared.sizes.Sizes.{Sizes}
use Rattle.shape.specs.Answers.{answering, outcome_says}
use Rattle.shape.specs.Refusals.{number_of}
use Rattle.shape.specs.Shapes.{sizes_of, no_sizes, checked_says, shape_says}
use Rattle.shape.proofs.Refusals.{shape-yes, shape-asked, answer-refused, handed, said-value, said-number}
use Rattle.job_parse.specs.Parse.{job_shape, frame_questions}
use Rattle.job_parse.specs.Framed.{Framed}
use Rattle.job_parse.proofs.JobQuestions.{frame-yes, frame-no, shape-no, contents-no, drifts-no, none}
use Rattle.job_parse.proofs.questions.check_job.Goals as goal

-- the first no of a part, by the part's answer
module _ {n : ℕ} {answer : Answer ⊤ Refusal} (e : outcome_says answer ≡ answering 0 n 0) where
  yes : answer ≡ Ok tt → n ≡ 0
  yes is = (said-value 0 0 n 0 (ap outcome_says (sym is) ∙ e)).0

  no : {told : Refusal} → answer ≡ Err told → (n ≡ number_of told) × (0 < number_of told)
  no {told} is = said-number 0 0 n (number_of told) (ap outcome_says (sym is) ∙ e)

-- the sizes of a shape that has passed its questions, in a framed job
known :
    (input : List ℕ) (s : Shape) (answer : Answer Sizes Refusal) (sizes : Sizes) → first_no (frame_questions input) ≡ 0 → s ≡ job_shape input
    → checked_says answer ≡ shape_says s → answer ≡ Ok sizes → Framed input s sizes
unfolding shape_refusal
known input s answer sizes frame shape says is =
    let lengths = frame-yes input frame in
    let passed = shape-yes s says is in
    record { long = lengths.0; short = lengths.1; shape = shape; taken = passed.none; sizes = passed.sizes }

taken : {input : List ℕ} {s : Shape} {sizes : Sizes} → Framed input s sizes → Taken (job_shape input)
taken k = subst (λ s. Taken s) k.shape k.taken

-- the frame's no
pub returns-in_err-check_frame : goal.returns-in_err-check_frame
returns-in_err-check_frame c =
    handed no_sizes (λ z. z) _ _ c.from_residual.ensures.1 (frame-no c.args.input.now _ (no c.check_frame.ensures c.in_err-check_frame.was))

-- the shape's no
pub returns-in_err-sizes : goal.returns-in_err-sizes
returns-in_err-sizes c =
    let s = c.shape_of-shape.result in
    let found = answer-refused (shape_questions s) s (shape-asked s c.check_shape.ensures) c.in_err-sizes.was in
    handed no_sizes (λ z. z) _ _ c.from_residual-in_err-sizes.ensures.1
    (shape-no c.args.input.now (yes c.check_frame.ensures c.in_ok-check_frame.was) _
    (ap (λ s. first_no (shape_questions s)) (sym c.shape_of-shape.ensures) ∙ found.0, found.1))

-- the contents' no
pub returns-in_err-check_contents : goal.returns-in_err-check_contents
returns-in_err-check_contents c =
    let input = c.args.input.now in
    let frame = yes c.check_frame.ensures c.in_ok-check_frame.was in
    let k = known input _ _ _ frame c.shape_of-shape.ensures c.check_shape.ensures c.in_ok-sizes.was in
    handed no_sizes (λ z. z) _ _ c.from_residual-in_err-check_contents.ensures.1
    (contents-no input frame (taken k) _ (no c.check_contents.ensures c.in_err-check_contents.was))

-- a drift's no
pub returns-in_err-check_drifts : goal.returns-in_err-check_drifts
returns-in_err-check_drifts c =
    let input = c.args.input.now in
    let frame = yes c.check_frame.ensures c.in_ok-check_frame.was in
    let k = known input _ _ _ frame c.shape_of-shape.ensures c.check_shape.ensures c.in_ok-sizes.was in
    let contents = yes c.check_contents.ensures c.in_ok-check_contents.was in
    handed no_sizes (λ z. z) _ _ c.from_residual-in_err-check_drifts.ensures.1
    (drifts-no input frame (taken k) contents _ (no c.check_drifts.ensures c.in_err-check_drifts.was))

-- all passed
pub returns : goal.returns
returns c =
    let input = c.args.input.now in
    let frame = yes c.check_frame.ensures c.in_ok-check_frame.was in
    let k = known input _ _ _ frame c.shape_of-shape.ensures c.check_shape.ensures c.in_ok-sizes.was in
    none input frame (taken k) (yes c.check_contents.ensures c.in_ok-check_contents.was) (yes c.check_drifts.ensures c.in_ok-check_drifts.was) _
    (k.sizes ∙ ap sizes_of k.shape)
