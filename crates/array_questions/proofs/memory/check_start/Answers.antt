-- `array_questions::memory::check_start` meets its contract: 15, and then 6 on counters, flags and totals. Assumes nothing.
use mathlib.Core.Path.{◌≡◌, refl}
use mathlib.Core.Bool.{Bool}
use mathlib.Core.List.{List, [], ◌∷◌}
use Prim.Native.Nat.{ℕ}
use lib.Dec.{eqb}
use Rattle.parity.specs.Lists.{alongside}
use Rattle.parity.specs.Questions.{Question, question, first_no, skip_question, lengths_question}
use Rattle.parity.specs.declared.Shape.{Shape}
use Rattle.shape.proofs.Refusals.{shape-yes, shape-no, asked-yes, asked-no, says-sizes}
use Rattle.array_memory.specs.Blocks.{blocks}
use Rattle.array_memory.specs.Lengths.{rows_wanted}
use Rattle.array_questions.proofs.memory.check_start.Goals as goal

module _ (s : Shape) (skip counters flags totals : ℕ) where
  -- what is asked after the shape
  abbrev more : List Question
  more = skip_question s skip ∷ lengths_question (counters ∷ flags ∷ totals ∷ []) (rows_wanted s) ∷ []

  -- the code's tests are these
  tested :
      (told : Bool) (n : ℕ) → n ≡ blocks s → told ≡ alongside eqb (counters ∷ flags ∷ totals ∷ []) (s.rows ∷ s.rows ∷ n ∷ [])
      → first_no (skip_question s skip ∷ question 6 told ∷ []) ≡ first_no more
  tested told n same test = rw (test, same) refl

-- the shape
pub returns-in_err-sizes : goal.returns-in_err-sizes
returns-in_err-sizes c =
    let a = c.args in
    shape-no a.shape c.check_shape.ensures c.in_err-sizes.was c.from_residual.result c.from_residual.ensures.1 (more a.shape a.skip a.counters a.flags a.totals)

pub returns-in_err-ask : goal.returns-in_err-ask
returns-in_err-ask c =
    let a = c.args in
    let p = shape-yes a.shape c.check_shape.ensures c.in_ok-sizes.was in
    asked-no refl p (more a.shape a.skip a.counters a.flags a.totals) c.ask.ensures
    (tested a.shape a.skip a.counters a.flags a.totals _ _ c.block_count.ensures c.same_lengths.ensures)
    c.in_err-ask.was _ c.from_residual-in_err-ask.ensures.1 []

pub returns : goal.returns
returns c =
    let a = c.args in
    let p = shape-yes a.shape c.check_shape.ensures c.in_ok-sizes.was in
    says-sizes _ a.shape (asked-yes refl p (more a.shape a.skip a.counters a.flags a.totals) c.ask.ensures
    (tested a.shape a.skip a.counters a.flags a.totals _ _ c.block_count.ensures c.same_lengths.ensures) c.in_ok-ask.was)
