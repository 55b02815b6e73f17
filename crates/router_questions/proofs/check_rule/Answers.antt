-- `router_questions::check_rule` meets its contract: what rule at asks, 8 on the lows and on the highs, then 19. Assumes nothing.
use mathlib.Core.Path.{◌≡◌, refl, sym, ap}
use mathlib.Core.Bool.{Bool}
use mathlib.Core.List.{List, [], ◌∷◌}
use Prim.Native.Nat.{ℕ}
use lib.Dec.{leb, ltb}
use lib.ListN.{length}
use Rattle.parity.specs.Lists.{every, alongside}
use Rattle.parity.specs.Questions.{question, first_no}
use Rattle.parity.specs.declared.Shape.{Shape}
use Rattle.shape.specs.Shapes.{no_sizes, sizes_of}
use Rattle.shape.specs.declared.sizes.Sizes.{Sizes}
use Rattle.shape.proofs.Refusals.{answer-taken, stays, handed, asked-yes, asked-no, says-sizes, levels-tested}
use Rattle.router_ranges.specs.Ranges.{ranges_of}
use Rattle.router_questions.specs.Questions.{rule_at_questions, given_questions}
use Rattle.router_questions.proofs.check_rule.Goals as goal

-- the code's tests of the lows and highs are their questions
tested :
    (s : Shape) (lows highs : List ℕ) (low high ordered : Bool) (z : Sizes) → z ≡ sizes_of s → low ≡ every (λ v. ltb v z.levels) lows
    → high ≡ every (λ v. ltb v z.levels) highs → ordered ≡ alongside leb lows highs
    → first_no (question 8 low ∷ question 8 high ∷ question 19 ordered ∷ []) ≡ first_no (given_questions s (ranges_of lows highs))
tested s lows highs low high ordered z e l h o =
    let q = ap (λ z. z.levels) e in
    rw (sym (levels-tested s q lows l), sym (levels-tested s q highs h), o) refl

-- what rule at asks
pub returns-in_err-sizes : goal.returns-in_err-sizes
returns-in_err-sizes c =
    let a = c.args in
    let s = a.shape in
    let lows = a.lows.now in
    let highs = a.highs.now in
    let asked = rule_at_questions s a.cells a.belts a.row (length lows) (length highs) in
    handed no_sizes (λ z. z) c.from_residual.result _ c.from_residual.ensures.1
    (stays asked s c.check_rule_at.ensures c.in_err-sizes.was (given_questions s (ranges_of lows highs)))

-- 8 and 19
pub returns-in_err-ask : goal.returns-in_err-ask
returns-in_err-ask c =
    let a = c.args in
    let s = a.shape in
    let lows = a.lows.now in
    let highs = a.highs.now in
    let p = answer-taken (rule_at_questions s a.cells a.belts a.row (length lows) (length highs)) s c.check_rule_at.ensures c.in_ok-sizes.was in
    asked-no refl p (given_questions s (ranges_of lows highs)) c.ask.ensures
    (tested s lows highs _ _ _ _ p.sizes c.all_below.ensures c.all_below-2.ensures c.in_order.ensures) c.in_err-ask.was _
    c.from_residual-in_err-ask.ensures.1 []

pub returns : goal.returns
returns c =
    let a = c.args in
    let s = a.shape in
    let lows = a.lows.now in
    let highs = a.highs.now in
    let p = answer-taken (rule_at_questions s a.cells a.belts a.row (length lows) (length highs)) s c.check_rule_at.ensures c.in_ok-sizes.was in
    says-sizes _ s
    (asked-yes refl p (given_questions s (ranges_of lows highs)) c.ask.ensures
    (tested s lows highs _ _ _ _ p.sizes c.all_below.ensures c.all_below-2.ensures c.in_order.ensures) c.in_ok-ask.was)
