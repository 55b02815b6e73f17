-- `array_questions::memory::check_run` meets its contract: 15, and then 6 on the whole memory and on the match bytes. Assumes nothing.
use mathlib.Core.Path.{◌≡◌, refl, ap}
use mathlib.Core.Bool.{Bool, cond}
use mathlib.Core.List.{List, [], ◌∷◌}
use Prim.Native.Nat.{ℕ}
use lib.Dec.{eqb}
use Rattle.parity.specs.Lists.{alongside}
use Rattle.parity.specs.Questions.{Question, question, first_no, skip_question, lengths_question}
use Rattle.parity.specs.declared.Shape.{Shape}
use Rattle.shape.specs.Shapes.{sizes_of}
use Rattle.shape.specs.declared.sizes.Sizes.{Sizes}
use Rattle.shape.proofs.Refusals.{lengths-apart, shape-yes, shape-no, asked-yes, asked-no, says-sizes}
use Rattle.array_memory.specs.Blocks.{blocks}
use Rattle.array_memory.specs.Lengths.{all_wanted}
use Rattle.array_questions.specs.Questions.{step_arguments}
use Rattle.array_questions.proofs.memory.check_run.Goals as goal

module _ (s : Shape) (skip cells lines counters flags totals matches : ℕ) where
  -- what is asked after the shape
  abbrev more : List Question
  more = skip_question s skip ∷ lengths_question (cells ∷ lines ∷ counters ∷ flags ∷ totals ∷ []) (all_wanted s) ∷ step_arguments s matches

  -- the code's tests are these
  tested :
      (told : Bool) (z : Sizes) → z ≡ sizes_of s
      → told ≡ alongside eqb (cells ∷ lines ∷ counters ∷ flags ∷ totals ∷ matches ∷ []) (z.cells ∷ s.rows ∷ s.rows ∷ s.rows ∷ blocks s ∷ s.rows ∷ [])
      → first_no (skip_question s skip ∷ question 6 told ∷ []) ≡ first_no more
  tested told z e test =
      rw (test, e)
      (ap (λ n. cond (skip_question s skip).holds n 15)
      (lengths-apart (cells ∷ lines ∷ counters ∷ flags ∷ totals ∷ []) (all_wanted s) (matches ∷ []) (s.rows ∷ []) [] refl))

-- the shape
pub returns-in_err-sizes : goal.returns-in_err-sizes
returns-in_err-sizes c =
    let a = c.args in
    shape-no a.shape c.check_shape.ensures c.in_err-sizes.was c.from_residual.result c.from_residual.ensures.1
    (more a.shape a.skip a.cells a.lines a.counters a.flags a.totals a.matches)

pub returns-in_err-ask : goal.returns-in_err-ask
returns-in_err-ask c =
    let a = c.args in
    let p = shape-yes a.shape c.check_shape.ensures c.in_ok-sizes.was in
    asked-no refl p (more a.shape a.skip a.cells a.lines a.counters a.flags a.totals a.matches) c.ask.ensures
    (tested a.shape a.skip a.cells a.lines a.counters a.flags a.totals a.matches _ _ p.sizes c.all_lent-lent.ensures)
    c.in_err-ask.was _ c.from_residual-in_err-ask.ensures.1 []

pub returns : goal.returns
returns c =
    let a = c.args in
    let p = shape-yes a.shape c.check_shape.ensures c.in_ok-sizes.was in
    says-sizes _ a.shape (asked-yes refl p (more a.shape a.skip a.cells a.lines a.counters a.flags a.totals a.matches) c.ask.ensures
    (tested a.shape a.skip a.cells a.lines a.counters a.flags a.totals a.matches _ _ p.sizes c.all_lent-lent.ensures) c.in_ok-ask.was)
