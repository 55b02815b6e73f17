-- `array_questions::check_sound` meets its contract: 6 on the cells, then 7. Assumes nothing.
use mathlib.Core.Path.{◌≡◌, refl}
use mathlib.Core.Bool.{and-true}
use mathlib.Core.List.{List, [], ◌∷◌}
use Prim.Native.Nat.{ℕ}
use lib.Dec.{eqb}
use Rattle.parity.specs.Shape.{cell_count}
use Rattle.parity.specs.Questions.{Question, question, first_no, place_question, lengths_question}
use Rattle.parity.specs.declared.Shape.{Shape}
use Rattle.shape.specs.Shapes.{sizes_of}
use Rattle.shape.specs.declared.sizes.Sizes.{Sizes}
use Rattle.shape.proofs.Refusals.{shape-yes, shape-no, asked-yes, asked-no, says-sizes}
use Rattle.array_memory.specs.Lengths.{cells_wanted}
use Rattle.array_questions.specs.Questions.{sound_arguments}
use Rattle.array_questions.proofs.check_sound.Goals as goal

module _ (s : Shape) (cells row : ℕ) where
  -- what is asked after the shape
  abbrev more : List Question
  more = lengths_question (cells ∷ []) (cells_wanted s) ∷ sound_arguments s row

  -- the code's tests are these
  tested : (z : Sizes) → z ≡ sizes_of s → first_no (question 6 (eqb cells z.cells) ∷ place_question row s.rows ∷ []) ≡ first_no more
  tested z e = rw (e, and-true (eqb cells (cell_count s))) refl

-- the shape
pub returns-in_err-sizes : goal.returns-in_err-sizes
returns-in_err-sizes c =
    let a = c.args in
    shape-no a.shape c.check_shape.ensures c.in_err-sizes.was c.from_residual.result c.from_residual.ensures.1 (more a.shape a.cells a.row)

pub returns-in_err-ask : goal.returns-in_err-ask
returns-in_err-ask c =
    let a = c.args in
    let p = shape-yes a.shape c.check_shape.ensures c.in_ok-sizes.was in
    asked-no refl p (more a.shape a.cells a.row) c.ask.ensures (tested a.shape a.cells a.row _ p.sizes)
    c.in_err-ask.was _ c.from_residual-in_err-ask.ensures.1 []

pub returns : goal.returns
returns c =
    let a = c.args in
    let p = shape-yes a.shape c.check_shape.ensures c.in_ok-sizes.was in
    says-sizes _ a.shape (asked-yes refl p (more a.shape a.cells a.row) c.ask.ensures (tested a.shape a.cells a.row _ p.sizes) c.in_ok-ask.was)
