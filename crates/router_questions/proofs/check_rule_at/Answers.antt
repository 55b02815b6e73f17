-- `router_questions::check_rule_at` meets its contract: 18, 6 on the cells, the belts and the buffers, then 7. Assumes nothing.
use mathlib.Core.Path.{◌≡◌, refl}
use mathlib.Core.Bool.{Bool}
use mathlib.Core.List.{List, [], ◌∷◌}
use Prim.Native.Nat.{ℕ}
use lib.Dec.{eqb}
use Rattle.parity.specs.Lists.{alongside}
use Rattle.parity.specs.Questions.{Question, question, first_no, place_question}
use Rattle.parity.specs.declared.Shape.{Shape}
use Rattle.shape.specs.Shapes.{sizes_of}
use Rattle.shape.specs.declared.sizes.Sizes.{Sizes}
use Rattle.shape.proofs.Refusals.{shape-yes, shape-no, asked-yes, asked-no, says-sizes}
use Rattle.router_ranges.specs.Ranges.{features}
use Rattle.router_questions.specs.Questions.{features_question}
use Rattle.router_questions.proofs.Asking.{lengths_first, lengths-tested}
use Rattle.router_questions.proofs.check_rule_at.Goals as goal

module _ (s : Shape) (cells belts row lows highs : ℕ) where
  abbrev lent : List ℕ
  lent = lows ∷ highs ∷ []

  abbrev wanted : List ℕ
  wanted = features s ∷ features s ∷ []

  abbrev seven : List Question
  seven = place_question row s.rows ∷ []

  -- what is asked after the shape
  abbrev more : List Question
  more = lengths_first s cells (belts ∷ []) (s.rows ∷ []) lent wanted seven

  -- the code's tests are these
  tested :
      (told : Bool) (z : Sizes) → z ≡ sizes_of s → told ≡ alongside eqb (cells ∷ belts ∷ lent) (z.cells ∷ s.rows ∷ wanted)
      → first_no (features_question s ∷ question 6 told ∷ seven) ≡ first_no more
  tested told z e test = lengths-tested s cells (belts ∷ []) (s.rows ∷ []) lent wanted seven told z e refl test

-- the shape
pub returns-in_err-sizes : goal.returns-in_err-sizes
returns-in_err-sizes c =
    let a = c.args in
    shape-no a.shape c.check_shape.ensures c.in_err-sizes.was c.from_residual.result c.from_residual.ensures.1
    (more a.shape a.cells a.belts a.row a.lows a.highs)

-- 18, 6 and 7
pub returns-in_err-ask : goal.returns-in_err-ask
unfolding features
returns-in_err-ask c =
    let a = c.args in
    let p = shape-yes a.shape c.check_shape.ensures c.in_ok-sizes.was in
    asked-no refl p (more a.shape a.cells a.belts a.row a.lows a.highs) c.ask.ensures
    (tested a.shape a.cells a.belts a.row a.lows a.highs _ _ p.sizes c.same_lengths.ensures) c.in_err-ask.was _ c.from_residual-in_err-ask.ensures.1 []

pub returns : goal.returns
unfolding features
returns c =
    let a = c.args in
    let p = shape-yes a.shape c.check_shape.ensures c.in_ok-sizes.was in
    says-sizes _ a.shape
    (asked-yes refl p (more a.shape a.cells a.belts a.row a.lows a.highs) c.ask.ensures
    (tested a.shape a.cells a.belts a.row a.lows a.highs _ _ p.sizes c.same_lengths.ensures) c.in_ok-ask.was)
