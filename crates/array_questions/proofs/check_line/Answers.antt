-- `array_questions::check_line` meets its contract: 6 on the lines, 7 on the row, then 16. Assumes nothing.
use mathlib.Core.Path.{◌≡◌, refl}
use mathlib.Core.Bool.{and-true}
use mathlib.Core.List.{List, [], ◌∷◌}
use Prim.Native.Nat.{ℕ}
use lib.Dec.{eqb}
use Rattle.parity.specs.Questions.{Question, question, first_no, place_question, line_question, lengths_question}
use Rattle.parity.specs.declared.Shape.{Shape}
use Rattle.shape.proofs.Refusals.{shape-yes, shape-no, asked-yes, asked-no, says-sizes}
use Rattle.array_memory.specs.Lengths.{lines_wanted}
use Rattle.array_questions.specs.Questions.{line_arguments}
use Rattle.array_questions.proofs.check_line.Goals as goal

module _ (s : Shape) (lines row byte : ℕ) where
  -- what is asked after the shape
  abbrev more : List Question
  more = lengths_question (lines ∷ []) (lines_wanted s) ∷ line_arguments s row byte

  -- the code's tests are these
  tested : first_no (question 6 (eqb lines s.rows) ∷ place_question row s.rows ∷ line_question byte ∷ []) ≡ first_no more
  tested = rw (and-true (eqb lines s.rows)) refl

-- the shape
pub returns-in_err-sizes : goal.returns-in_err-sizes
returns-in_err-sizes c =
    let a = c.args in
    shape-no a.shape c.check_shape.ensures c.in_err-sizes.was c.from_residual.result c.from_residual.ensures.1 (more a.shape a.lines a.row a.byte)

pub returns-in_err-ask : goal.returns-in_err-ask
returns-in_err-ask c =
    let a = c.args in
    let p = shape-yes a.shape c.check_shape.ensures c.in_ok-sizes.was in
    asked-no refl p (more a.shape a.lines a.row a.byte) c.ask.ensures (tested a.shape a.lines a.row a.byte)
    c.in_err-ask.was _ c.from_residual-in_err-ask.ensures.1 []

pub returns : goal.returns
returns c =
    let a = c.args in
    let p = shape-yes a.shape c.check_shape.ensures c.in_ok-sizes.was in
    says-sizes _ a.shape (asked-yes refl p (more a.shape a.lines a.row a.byte) c.ask.ensures (tested a.shape a.lines a.row a.byte) c.in_ok-ask.was)
