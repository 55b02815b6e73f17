-- `acam::compare::match_byte` meets its contract: the cells of the stretches so far have answered. Assumes nothing.
use mathlib.Core.Path.{◌≡◌, refl, sym, ◌∙◌, ap}
use mathlib.Core.Bool.{Bool, true, false, cond}
use Prim.Native.Nat.{◌+◌, ◌-◌, ◌*◌}
use native.Mathlib.Omega.{arith}
use lib.ListN.{length}
use mir.Val.{bool_byte}
use Rattle.acam.specs.Cell.{compared_byte}
use Rattle.acam.proofs.Comparison.{stretch-fails, stretch-passes, stretch-ends}
use Rattle.acam.proofs.compare.match_byte.Goals as goal

-- a test as a number
bool_byte-is : (b : Bool) → bool_byte b ≡ cond b 1 0
bool_byte-is true = refl
bool_byte-is false = refl

-- a stretch says no
pub returns-then-not-answer_all : goal.returns-then-not-answer_all
unfolding compared_byte
returns-then-not-answer_all c =
    let args = c.args in
    ap (λ t. cond t 1 0)
    (sym
    (stretch-fails args.inputs.now args.row.now (omega arith) (c.loop-i.i * 16) _ (omega arith)
    (sym c.answer_all.ensures ∙ c.if-not-answer_all.true)))

pub loop-i-preserved : goal.loop-i-preserved
loop-i-preserved c =
    let args = c.args in
    let first =
    stretch-passes args.inputs.now args.row.now (omega arith) (c.loop-i.i * 16) (c.loop-i.i * 16 + 16) (omega arith)
    (sym c.answer_all.ensures ∙ c.if-not-answer_all.false) c.loop-i.invariant in
    λ k h. first k (omega arith)

-- the last one tells
pub returns : goal.returns
unfolding compared_byte
returns c =
    let args = c.args in
    c.from.ensures
    ∙ bool_byte-is _
    ∙ ap (λ t. cond t 1 0)
    (c.answer_all-2.ensures
    ∙ stretch-ends args.inputs.now args.row.now (omega arith) (length args.inputs.now - 16) (λ k h. c.loop-i.invariant k (omega arith)))
