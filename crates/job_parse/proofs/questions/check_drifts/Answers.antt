-- `job_parse::questions::check_drifts` meets its contract: no drift before drift i has a no. Assumes nothing.
use mathlib.Core.Path.{◌≡◌, refl, sym, ◌∙◌, ap}
use mathlib.Core.List.{List}
use Prim.Native.Nat.{ℕ, ◌+◌, ◌-◌, ◌*◌, ◌≤◌, ◌<◌}
use native.Mathlib.Omega.{arith}
use borrow.Author.Tests.{lt-ltb, le-ltb}
use Rattle.parity.specs.Lists.{joined}
use Rattle.parity.specs.Shape.{levels, columns}
use Rattle.parity.specs.Questions.{first_no}
use Rattle.parity.specs.declared.Shape.{Shape}
use Rattle.shape.specs.declared.answer.Refusal.{Refusal}
use Rattle.shape.specs.declared.answer.Refusal.TheVariants.{Place, Level}
use Rattle.shape.specs.declared.sizes.Sizes.{Sizes}
use Rattle.shape.specs.Answers.{refused, answering}
use Rattle.shape.specs.Refusals.{number_of}
use Rattle.shape.proofs.Refusals.{refuses, numbered-refusal}
use Rattle.job_parse.specs.Parse.{byte_at, two_at, job_shape, drift_count, drift_start, drift_row, drift_column, drift_level, drift_questions}
use Rattle.job_parse.proofs.Joined.{joined-stops, joined-passes}
use Rattle.job_parse.specs.Framed.{Framed}
use Rattle.job_parse.proofs.questions.check_drifts.Invariants.{asked}
use Rattle.job_parse.proofs.questions.check_drifts.Goals as goal

module _ (input : List ℕ) (i : ℕ) where
  abbrev s : Shape
  s = job_shape input

  row-no : s.rows ≤ drift_row input i → first_no (asked input i) ≡ 7
  row-no r = simp (le-ltb (drift_row input i) s.rows r)

  column-no : drift_row input i < s.rows → columns s ≤ drift_column input i → first_no (asked input i) ≡ 7
  column-no r c = simp (lt-ltb (drift_row input i) s.rows r, le-ltb (drift_column input i) (columns s) c)

  level-no :
      drift_row input i < s.rows → drift_column input i < columns s → levels s ≤ drift_level input i → first_no (asked input i) ≡ 8
  level-no r c l =
      simp (
        lt-ltb (drift_row input i) s.rows r,
        lt-ltb (drift_column input i) (columns s) c,
        le-ltb (drift_level input i) (levels s) l,
      )

  all_yes :
      drift_row input i < s.rows → drift_column input i < columns s → drift_level input i < levels s → first_no (asked input i) ≡ 0
  all_yes r c l =
      simp (
        lt-ltb (drift_row input i) s.rows r,
        lt-ltb (drift_column input i) (columns s) c,
        lt-ltb (drift_level input i) (levels s) l,
      )

-- what turn i reads: the drifts' number and its own drift, with the sizes of the job's shape
record Turn (input : List ℕ) (shape : Shape) (sizes : Sizes) (start i : ℕ) : Type 0 where
  count : two_at input (start - 2) ≡ drift_count input
  row : two_at input (start + 4 * i) ≡ drift_row input i
  column : byte_at input (start + 4 * i + 2) ≡ drift_column input i
  level : byte_at input (start + 4 * i + 3) ≡ drift_level input i
  rows : shape.rows ≡ (job_shape input).rows
  columns : sizes.columns ≡ columns (job_shape input)
  levels : sizes.levels ≡ levels (job_shape input)

turn :
    (input : List ℕ) (shape : Shape) (sizes : Sizes) (i : ℕ) → Framed input shape sizes
    → Turn input shape sizes (13 + shape.rows * shape.width) i
turn input shape sizes i framed =
    let e = framed.shape in
    let z = framed.sizes in
    let start : 13 + shape.rows * shape.width ≡ drift_start input 0 = omega (arith, ap (λ s. s.rows * s.width) e) in
    record {
      count = ap (two_at input) (omega (arith, start));
      row = ap (two_at input) (omega (arith, start));
      column = ap (byte_at input) (omega (arith, start));
      level = ap (byte_at input) (omega (arith, start));
      rows = ap (λ s. s.rows) e;
      columns = ap (λ z. z.columns) z ∙ ap columns e;
      levels = ap (λ z. z.levels) z ∙ ap levels e;
    }

-- a drift's no is the first of all
stops :
    (input : List ℕ) (i : ℕ) (refusal : Refusal) → i < drift_count input → first_no (joined i (asked input)) ≡ 0
    → first_no (asked input i) ≡ number_of refusal → refused {A = ℕ} 0 (number_of refusal) ≡ answering 0 (first_no (drift_questions input)) 0
unfolding drift_questions
stops input i refusal here before e =
    refuses 0 0 refusal
    (joined-stops (asked input) (λ i. refl) (drift_count input) i (number_of refusal) (numbered-refusal refusal) here before e)

-- no such row
pub returns-then-rows-two_at : goal.returns-then-rows-two_at
returns-then-rows-two_at c =
    let input = c.args.input.now in
    let i = c.loop-i.i in
    let reads = turn input c.args.shape c.args.sizes i c.requires.framed in
    stops input i Place (omega arith) c.loop-i.invariant (row-no input i (omega arith))

-- no such column
pub returns-then-columns-from : goal.returns-then-columns-from
returns-then-columns-from c =
    let input = c.args.input.now in
    let i = c.loop-i.i in
    let reads = turn input c.args.shape c.args.sizes i c.requires.framed in
    stops input i Place (omega arith) c.loop-i.invariant (column-no input i (omega arith) (omega arith))

-- a level's no
pub returns-then-levels-from : goal.returns-then-levels-from
returns-then-levels-from c =
    let input = c.args.input.now in
    let i = c.loop-i.i in
    let reads = turn input c.args.shape c.args.sizes i c.requires.framed in
    stops input i Level (omega arith) c.loop-i.invariant (level-no input i (omega arith) (omega arith) (omega arith))

pub loop-i-preserved : goal.loop-i-preserved
loop-i-preserved c =
    let input = c.args.input.now in
    let i = c.loop-i.i in
    let reads = turn input c.args.shape c.args.sizes i c.requires.framed in
    joined-passes (asked input) (λ i. refl) i c.loop-i.invariant (all_yes input i (omega arith) (omega arith) (omega arith))

-- all passed
pub returns : goal.returns
unfolding drift_questions
returns c =
    let input = c.args.input.now in
    let reads = turn input c.args.shape c.args.sizes c.loop-i.i c.requires.framed in
    let all : c.loop-i.i ≡ drift_count input = omega arith in
    ap (λ n. answering 0 n 0) (sym c.loop-i.invariant ∙ ap (λ i. first_no (joined i (asked input))) all)
