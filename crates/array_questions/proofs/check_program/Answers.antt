-- `array_questions::check_program` meets its contract: 6 on the cells and on the levels, 7, then 8. Assumes nothing.
use mathlib.Core.Path.{◌≡◌, refl}
use mathlib.Core.Bool.{and-true}
use mathlib.Core.List.{List, [], ◌∷◌, ◌++◌}
use Prim.Native.Nat.{ℕ}
use lib.Dec.{eqb}
use lib.ListN.{length}
use Rattle.parity.specs.Shape.{levels, cell_count}
use Rattle.parity.specs.Questions.{Question, question, first_no, place_question, levels_question, lengths_question}
use Rattle.parity.specs.declared.Shape.{Shape}
use Rattle.shape.specs.Shapes.{sizes_of}
use Rattle.shape.specs.declared.answer.Refusal.TheVariants.{Level}
use Rattle.shape.specs.declared.sizes.Sizes.{Sizes}
use Rattle.shape.proofs.Refusals.{shape-yes, shape-no, one-asked, asked-yes, asked-no, says-sizes}
use Rattle.array_memory.specs.Lengths.{cells_wanted}
use Rattle.array_questions.proofs.Leveled.{leveled}
use Rattle.array_questions.proofs.check_program.Goals as goal

module _ (s : Shape) (cells : ℕ) (row : ℕ) (given : List ℕ) where
  -- what is asked after the shape, up to 7; and 8
  abbrev more : List Question
  more = lengths_question (cells ∷ []) (cells_wanted s) ∷ lengths_question (length given ∷ []) (s.width ∷ []) ∷ place_question row s.rows ∷ []

  abbrev eight : List Question
  eight = levels_question (levels s) given ∷ []

  -- the code's tests are these
  tested :
      (z : Sizes) → z ≡ sizes_of s → first_no
      (question 6 (eqb cells z.cells) ∷ question 6 (eqb (length given) s.width) ∷ place_question row s.rows ∷ []) ≡ first_no more
  tested z e = rw (e, and-true (eqb cells (cell_count s)), and-true (eqb (length given) s.width)) refl

-- the shape
pub returns-in_err-sizes : goal.returns-in_err-sizes
returns-in_err-sizes c =
    let a = c.args in
    shape-no a.shape c.check_shape.ensures c.in_err-sizes.was c.from_residual.result c.from_residual.ensures.1
    (more a.shape a.cells a.row a.given.now ++ eight a.shape a.cells a.row a.given.now)

-- 6 and 7
pub returns-in_err-ask : goal.returns-in_err-ask
returns-in_err-ask c =
    let a = c.args in
    let p = shape-yes a.shape c.check_shape.ensures c.in_ok-sizes.was in
    asked-no refl p (more a.shape a.cells a.row a.given.now) c.ask.ensures (tested a.shape a.cells a.row a.given.now _ p.sizes)
    c.in_err-ask.was _ c.from_residual-in_err-ask.ensures.1 (eight a.shape a.cells a.row a.given.now)

-- 8
pub returns-in_err-unless : goal.returns-in_err-unless
returns-in_err-unless c =
    let a = c.args in
    let p = shape-yes a.shape c.check_shape.ensures c.in_ok-sizes.was in
    let seven = asked-yes refl p (more a.shape a.cells a.row a.given.now) c.ask.ensures (tested a.shape a.cells a.row a.given.now _ p.sizes) c.in_ok-ask.was in
    asked-no refl seven (eight a.shape a.cells a.row a.given.now) (one-asked Level _ c.unless.ensures)
    (leveled a.shape a.given.now _ _ p.sizes c.all_below.ensures) c.in_err-unless.was _ c.from_residual-in_err-unless.ensures.1 []

pub returns : goal.returns
returns c =
    let a = c.args in
    let p = shape-yes a.shape c.check_shape.ensures c.in_ok-sizes.was in
    let seven = asked-yes refl p (more a.shape a.cells a.row a.given.now) c.ask.ensures (tested a.shape a.cells a.row a.given.now _ p.sizes) c.in_ok-ask.was in
    says-sizes _ a.shape
    (asked-yes refl seven (eight a.shape a.cells a.row a.given.now) (one-asked Level _ c.unless.ensures)
    (leveled a.shape a.given.now _ _ p.sizes c.all_below.ensures) c.in_ok-unless.was)
