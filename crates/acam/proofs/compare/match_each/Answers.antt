-- `acam::compare::match_each` meets its contract: the cells so far have answered. Assumes nothing.
use mathlib.Core.Path.{sym, ◌∙◌, ap}
use mathlib.Core.Bool.{cond}
use native.Mathlib.Omega.{arith}
use Rattle.acam.specs.Cell.{compared_byte}
use Rattle.acam.proofs.Comparison.{cell-fails, compare-all}
use Rattle.acam.proofs.compare.match_each.Goals as goal

-- a cell says no
pub returns-then-not-answers : goal.returns-then-not-answers
unfolding compared_byte
returns-then-not-answers c =
    ap (λ t. cond t 1 0)
    (sym (cell-fails c.args.inputs.now c.args.row.now (omega arith) c.loop-j.j (omega arith) (sym c.answers.ensures ∙ c.if-not-answers.true)))

-- all cells answer
pub returns : goal.returns
unfolding compared_byte
returns c =
    ap (λ t. cond t 1 0) (sym (compare-all c.args.inputs.now c.args.row.now (omega arith) (λ i h. c.loop-j.invariant i (omega arith))))
