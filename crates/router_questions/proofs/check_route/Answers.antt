-- `router_questions::check_route` meets its contract: 18, 6 on the cells, the lines, the belts and the values, then 8. Assumes nothing.
use mathlib.Core.Path.{◌≡◌, refl}
use mathlib.Core.Bool.{Bool}
use mathlib.Core.List.{List, [], ◌∷◌, ◌++◌}
use Prim.Native.Nat.{ℕ}
use lib.Dec.{eqb}
use lib.ListN.{length}
use Rattle.parity.specs.Lists.{alongside}
use Rattle.parity.specs.Shape.{levels}
use Rattle.parity.specs.Questions.{Question, question, first_no, levels_question}
use Rattle.parity.specs.declared.Shape.{Shape}
use Rattle.shape.specs.Shapes.{sizes_of}
use Rattle.shape.specs.declared.answer.Refusal.TheVariants.{Level}
use Rattle.shape.specs.declared.sizes.Sizes.{Sizes}
use Rattle.shape.proofs.Refusals.{shape-yes, shape-no, one-asked, asked-yes, asked-no, says-sizes}
use Rattle.router_ranges.specs.Ranges.{features}
use Rattle.router_questions.specs.Questions.{features_question}
use Rattle.array_questions.proofs.Leveled.{leveled}
use Rattle.router_questions.proofs.Asking.{lengths_first, lengths-tested}
use Rattle.router_questions.proofs.check_route.Goals as goal

module _ (s : Shape) (cells lines belts : ℕ) (values : List ℕ) where
  abbrev lent : List ℕ
  lent = length values ∷ []

  abbrev wanted : List ℕ
  wanted = features s ∷ []

  -- what is asked after the shape, up to 6; and 8
  abbrev six : List Question
  six = lengths_first s cells (lines ∷ belts ∷ []) (s.rows ∷ s.rows ∷ []) lent wanted []

  abbrev eight : List Question
  eight = levels_question (levels s) values ∷ []

  -- the code's tests are these
  tested :
      (told : Bool) (z : Sizes) → z ≡ sizes_of s → told ≡ alongside eqb (cells ∷ lines ∷ belts ∷ lent) (z.cells ∷ s.rows ∷ s.rows ∷ wanted)
      → first_no (features_question s ∷ question 6 told ∷ []) ≡ first_no six
  tested told z e test = lengths-tested s cells (lines ∷ belts ∷ []) (s.rows ∷ s.rows ∷ []) lent wanted [] told z e refl test

-- the shape
pub returns-in_err-sizes : goal.returns-in_err-sizes
returns-in_err-sizes c =
    let a = c.args in
    shape-no a.shape c.check_shape.ensures c.in_err-sizes.was c.from_residual.result c.from_residual.ensures.1
    (six a.shape a.cells a.lines a.belts a.values.now ++ eight a.shape a.cells a.lines a.belts a.values.now)

-- 18 and 6
pub returns-in_err-ask : goal.returns-in_err-ask
unfolding features
returns-in_err-ask c =
    let a = c.args in
    let p = shape-yes a.shape c.check_shape.ensures c.in_ok-sizes.was in
    asked-no refl p (six a.shape a.cells a.lines a.belts a.values.now) c.ask.ensures
    (tested a.shape a.cells a.lines a.belts a.values.now _ _ p.sizes c.same_lengths.ensures) c.in_err-ask.was _
    c.from_residual-in_err-ask.ensures.1 (eight a.shape a.cells a.lines a.belts a.values.now)

-- 8
pub returns-in_err-unless : goal.returns-in_err-unless
unfolding features
returns-in_err-unless c =
    let a = c.args in
    let p = shape-yes a.shape c.check_shape.ensures c.in_ok-sizes.was in
    let sized =
    asked-yes refl p (six a.shape a.cells a.lines a.belts a.values.now) c.ask.ensures
    (tested a.shape a.cells a.lines a.belts a.values.now _ _ p.sizes c.same_lengths.ensures) c.in_ok-ask.was in
    asked-no refl sized (eight a.shape a.cells a.lines a.belts a.values.now) (one-asked Level _ c.unless.ensures)
    (leveled a.shape a.values.now _ _ p.sizes c.all_below.ensures) c.in_err-unless.was _
    c.from_residual-in_err-unless.ensures.1 []

pub returns : goal.returns
unfolding features
returns c =
    let a = c.args in
    let p = shape-yes a.shape c.check_shape.ensures c.in_ok-sizes.was in
    let sized =
    asked-yes refl p (six a.shape a.cells a.lines a.belts a.values.now) c.ask.ensures
    (tested a.shape a.cells a.lines a.belts a.values.now _ _ p.sizes c.same_lengths.ensures) c.in_ok-ask.was in
    says-sizes _ a.shape
    (asked-yes refl sized (eight a.shape a.cells a.lines a.belts a.values.now) (one-asked Level _ c.unless.ensures)
    (leveled a.shape a.values.now _ _ p.sizes c.all_below.ensures) c.in_ok-unless.was)
