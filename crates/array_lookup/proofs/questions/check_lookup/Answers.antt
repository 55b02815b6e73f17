-- `array_lookup::questions::check_lookup` meets its contract: 6 on cells, lines, inputs and match bytes, then 8. Assumes nothing.
use mathlib.Core.Path.{refl}
use mathlib.Core.List.{List, [], ◌∷◌, ◌++◌}
use Prim.Native.Nat.{ℕ}
use lib.ListN.{length}
use Rattle.shape.specs.declared.answer.Refusal.TheVariants.{Length, Level}
use Rattle.shape.proofs.Refusals.{shape-yes, shape-no, one-asked, asked-yes, asked-no, says-sizes}
use Rattle.array_lookup.proofs.Asking.{six, eight, six-tested, eight-tested}
use Rattle.array_lookup.proofs.questions.check_lookup.Goals as goal

-- the shape
pub returns-in_err-sizes : goal.returns-in_err-sizes
returns-in_err-sizes c =
    let a = c.args in
    let lent : List ℕ = length a.inputs.now ∷ a.matches ∷ [] in
    let wanted : List ℕ = a.shape.width ∷ a.shape.rows ∷ [] in
    let more = six a.shape a.cells a.lines lent wanted a.inputs.now ++ eight a.shape a.cells a.lines lent wanted a.inputs.now in
    shape-no a.shape c.check_shape.ensures c.in_err-sizes.was c.from_residual.result c.from_residual.ensures.1 more

-- 6
pub returns-in_err-unless : goal.returns-in_err-unless
returns-in_err-unless c =
    let a = c.args in
    let lent : List ℕ = length a.inputs.now ∷ a.matches ∷ [] in
    let wanted : List ℕ = a.shape.width ∷ a.shape.rows ∷ [] in
    let p = shape-yes a.shape c.check_shape.ensures c.in_ok-sizes.was in
    asked-no refl p (six a.shape a.cells a.lines lent wanted a.inputs.now) (one-asked Length _ c.unless.ensures)
    (six-tested a.shape a.cells a.lines lent wanted a.inputs.now _ _ p.sizes c.same_lengths.ensures) c.in_err-unless.was _
    c.from_residual-in_err-unless.ensures.1 (eight a.shape a.cells a.lines lent wanted a.inputs.now)

-- 8
pub returns-in_err-unless-2 : goal.returns-in_err-unless-2
returns-in_err-unless-2 c =
    let a = c.args in
    let lent : List ℕ = length a.inputs.now ∷ a.matches ∷ [] in
    let wanted : List ℕ = a.shape.width ∷ a.shape.rows ∷ [] in
    let p = shape-yes a.shape c.check_shape.ensures c.in_ok-sizes.was in
    let sized =
    asked-yes refl p (six a.shape a.cells a.lines lent wanted a.inputs.now) (one-asked Length _ c.unless.ensures)
    (six-tested a.shape a.cells a.lines lent wanted a.inputs.now _ _ p.sizes c.same_lengths.ensures) c.in_ok-unless.was in
    asked-no refl sized (eight a.shape a.cells a.lines lent wanted a.inputs.now) (one-asked Level _ c.unless-2.ensures)
    (eight-tested a.shape a.cells a.lines lent wanted a.inputs.now _ _ p.sizes c.all_at_most.ensures) c.in_err-unless-2.was _
    c.from_residual-in_err-unless-2.ensures.1 []

pub returns : goal.returns
returns c =
    let a = c.args in
    let lent : List ℕ = length a.inputs.now ∷ a.matches ∷ [] in
    let wanted : List ℕ = a.shape.width ∷ a.shape.rows ∷ [] in
    let p = shape-yes a.shape c.check_shape.ensures c.in_ok-sizes.was in
    let sized =
    asked-yes refl p (six a.shape a.cells a.lines lent wanted a.inputs.now) (one-asked Length _ c.unless.ensures)
    (six-tested a.shape a.cells a.lines lent wanted a.inputs.now _ _ p.sizes c.same_lengths.ensures) c.in_ok-unless.was in
    says-sizes _ a.shape
    (asked-yes refl sized (eight a.shape a.cells a.lines lent wanted a.inputs.now) (one-asked Level _ c.unless-2.ensures)
    (eight-tested a.shape a.cells a.lines lent wanted a.inputs.now _ _ p.sizes c.all_at_most.ensures) c.in_ok-unless-2.was)
