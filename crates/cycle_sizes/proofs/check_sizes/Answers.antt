-- `cycle_sizes::check_sizes` meets its contract: 15 after the shape. Assumes nothing.
use mathlib.Core.Path.{refl}
use mathlib.Core.List.{List, [], ◌∷◌}
use Prim.Native.Nat.{ℕ}
use Rattle.parity.specs.Questions.{Question, skip_question}
use Rattle.parity.specs.declared.Shape.{Shape}
use Rattle.shape.specs.declared.answer.Refusal.TheVariants.{Skip}
use Rattle.shape.proofs.Refusals.{shape-yes, shape-no, one-asked, asked-yes, asked-no, says-sizes}
use Rattle.cycle_sizes.proofs.check_sizes.Goals as goal

-- what is asked after the shape
abbrev fifteen : Shape → ℕ → List Question
fifteen s skip = skip_question s skip ∷ []

-- the shape
pub returns-in_err-sizes : goal.returns-in_err-sizes
returns-in_err-sizes c =
    let a = c.args in
    shape-no a.shape c.check_shape.ensures c.in_err-sizes.was c.from_residual.result c.from_residual.ensures.1 (fifteen a.shape a.skip)

-- 15
pub returns-in_err-unless : goal.returns-in_err-unless
returns-in_err-unless c =
    let a = c.args in
    let p = shape-yes a.shape c.check_shape.ensures c.in_ok-sizes.was in
    asked-no refl p (fifteen a.shape a.skip) (one-asked Skip _ c.unless.ensures) refl c.in_err-unless.was _
    c.from_residual-in_err-unless.ensures.1 []

pub returns : goal.returns
returns c =
    let a = c.args in
    let p = shape-yes a.shape c.check_shape.ensures c.in_ok-sizes.was in
    says-sizes _ a.shape (asked-yes refl p (fifteen a.shape a.skip) (one-asked Skip _ c.unless.ensures) refl c.in_ok-unless.was)
