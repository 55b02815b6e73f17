-- `array_questions::check_ask` meets its contract: 6 on the cells, then on the levels and the buffer, 7, then 8. Assumes nothing.
use mathlib.Core.Path.{◌≡◌, refl, ap, ◌∙◌}
use mathlib.Core.Bool.{Bool, and-true}
use mathlib.Core.List.{List, [], ◌∷◌, ◌++◌}
use Prim.Native.Nat.{ℕ}
use lib.Dec.{eqb}
use lib.ListN.{length}
use Rattle.parity.specs.Lists.{alongside}
use Rattle.parity.specs.Shape.{levels, columns, cell_count}
use Rattle.parity.specs.Questions.{Question, question, first_no, place_question, levels_question, lengths_question}
use Rattle.parity.specs.declared.Shape.{Shape}
use Rattle.shape.specs.Shapes.{sizes_of}
use Rattle.shape.specs.declared.answer.Refusal.TheVariants.{Level}
use Rattle.shape.specs.declared.sizes.Sizes.{Sizes}
use Rattle.shape.proofs.Refusals.{shape-yes, shape-no, one-asked, asked-yes, asked-no, says-sizes}
use Rattle.array_memory.specs.Lengths.{cells_wanted}
use Rattle.array_questions.proofs.Leveled.{leveled}
use Rattle.array_questions.proofs.check_ask.Goals as goal

module _ (s : Shape) (cells : ℕ) (row : ℕ) (given : List ℕ) (finished : ℕ) where
  -- what is asked after the shape, up to 7; and 8
  abbrev more : List Question
  more = lengths_question (cells ∷ []) (cells_wanted s) ∷ lengths_question (length given ∷ finished ∷ [])
      (s.width ∷ columns s ∷ []) ∷ place_question row s.rows ∷ []

  abbrev eight : List Question
  eight = levels_question (levels s) given ∷ []

  -- the code's tests are these
  tested :
      (told : Bool) (z : Sizes) → z ≡ sizes_of s → told ≡ alongside eqb (length given ∷ finished ∷ []) (s.width ∷ z.columns ∷ [])
      → first_no (question 6 (eqb cells z.cells) ∷ question 6 told ∷ place_question row s.rows ∷ []) ≡ first_no more
  tested told z e test =
      let wanted = test ∙ ap (λ z. alongside eqb (length given ∷ finished ∷ []) (s.width ∷ z.columns ∷ [])) e in
      rw (e, wanted, and-true (eqb cells (cell_count s))) refl

-- the shape
pub returns-in_err-sizes : goal.returns-in_err-sizes
returns-in_err-sizes c =
    let a = c.args in
    shape-no a.shape c.check_shape.ensures c.in_err-sizes.was c.from_residual.result c.from_residual.ensures.1
    (more a.shape a.cells a.row a.given.now a.finished ++ eight a.shape a.cells a.row a.given.now a.finished)

-- 6 and 7
pub returns-in_err-ask : goal.returns-in_err-ask
returns-in_err-ask c =
    let a = c.args in
    let p = shape-yes a.shape c.check_shape.ensures c.in_ok-sizes.was in
    asked-no refl p (more a.shape a.cells a.row a.given.now a.finished) c.ask.ensures
    (tested a.shape a.cells a.row a.given.now a.finished _ _ p.sizes c.same_lengths.ensures)
    c.in_err-ask.was _ c.from_residual-in_err-ask.ensures.1 (eight a.shape a.cells a.row a.given.now a.finished)

-- 8
pub returns-in_err-unless : goal.returns-in_err-unless
returns-in_err-unless c =
    let a = c.args in
    let p = shape-yes a.shape c.check_shape.ensures c.in_ok-sizes.was in
    let seven = asked-yes refl p (more a.shape a.cells a.row a.given.now a.finished) c.ask.ensures
    (tested a.shape a.cells a.row a.given.now a.finished _ _ p.sizes c.same_lengths.ensures) c.in_ok-ask.was in
    asked-no refl seven (eight a.shape a.cells a.row a.given.now a.finished) (one-asked Level _ c.unless.ensures)
    (leveled a.shape a.given.now _ _ p.sizes c.all_below.ensures) c.in_err-unless.was _ c.from_residual-in_err-unless.ensures.1 []

pub returns : goal.returns
returns c =
    let a = c.args in
    let p = shape-yes a.shape c.check_shape.ensures c.in_ok-sizes.was in
    let seven = asked-yes refl p (more a.shape a.cells a.row a.given.now a.finished) c.ask.ensures
    (tested a.shape a.cells a.row a.given.now a.finished _ _ p.sizes c.same_lengths.ensures) c.in_ok-ask.was in
    says-sizes _ a.shape
    (asked-yes refl seven (eight a.shape a.cells a.row a.given.now a.finished) (one-asked Level _ c.unless.ensures)
    (leveled a.shape a.given.now _ _ p.sizes c.all_below.ensures) c.in_ok-unless.was)
