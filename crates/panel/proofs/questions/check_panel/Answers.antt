-- `panel::questions::check_panel` meets its contract: 6 on flags and totals, after the shape. Assumes nothing.
use mathlib.Core.Path.{◌≡◌, refl}
use mathlib.Core.Bool.{Bool}
use mathlib.Core.List.{List, [], ◌∷◌}
use Prim.Native.Nat.{ℕ}
use lib.Dec.{eqb}
use Rattle.parity.specs.Lists.{alongside}
use Rattle.parity.specs.Questions.{Question, question, first_no, lengths_question}
use Rattle.parity.specs.declared.Shape.{Shape}
use Rattle.shape.specs.declared.answer.Refusal.TheVariants.{Length}
use Rattle.shape.proofs.Refusals.{shape-yes, shape-no, one-asked, asked-yes, asked-no, says-sizes}
use Rattle.array_memory.specs.Blocks.{blocks}
use Rattle.array_memory.specs.Lengths.{flagged_wanted}
use Rattle.panel.proofs.questions.check_panel.Goals as goal

module _ (s : Shape) (flags totals : ℕ) where
  -- what is asked after the shape
  abbrev six : List Question
  six = lengths_question (flags ∷ totals ∷ []) (flagged_wanted s) ∷ []

  -- the code's test is this
  tested :
      (told : Bool) (n : ℕ) → n ≡ blocks s → told ≡ alongside eqb (flags ∷ totals ∷ []) (s.rows ∷ n ∷ [])
      → first_no (question 6 told ∷ []) ≡ first_no six
  tested told n same test = rw (test, same) refl

-- the shape
pub returns-in_err-sizes : goal.returns-in_err-sizes
returns-in_err-sizes c =
    let a = c.args in
    shape-no a.shape c.check_shape.ensures c.in_err-sizes.was c.from_residual.result c.from_residual.ensures.1 (six a.shape a.flags a.totals)

-- 6
pub returns-in_err-unless : goal.returns-in_err-unless
returns-in_err-unless c =
    let a = c.args in
    let p = shape-yes a.shape c.check_shape.ensures c.in_ok-sizes.was in
    asked-no refl p (six a.shape a.flags a.totals) (one-asked Length _ c.unless.ensures)
    (tested a.shape a.flags a.totals _ _ c.block_count.ensures c.same_lengths.ensures) c.in_err-unless.was _
    c.from_residual-in_err-unless.ensures.1 []

pub returns : goal.returns
returns c =
    let a = c.args in
    let p = shape-yes a.shape c.check_shape.ensures c.in_ok-sizes.was in
    says-sizes _ a.shape
    (asked-yes refl p (six a.shape a.flags a.totals) (one-asked Length _ c.unless.ensures)
    (tested a.shape a.flags a.totals _ _ c.block_count.ensures c.same_lengths.ensures) c.in_ok-unless.was)
