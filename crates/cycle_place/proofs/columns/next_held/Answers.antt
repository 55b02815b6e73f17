-- `cycle_place::columns::next_held` meets its contract: what is left of the search gives the whole search's answer. Assumes nothing.
use mathlib.Core.Path.{sym, ◌∙◌}
use native.Mathlib.Omega.{arith}
use lib.ListN.{get_or}
use Rattle.cycle_place.proofs.CheckRows.{masked-one, masked-none, held-here, held-later}
use Rattle.cycle_place.proofs.columns.next_held.Goals as goal

-- a column is found
pub returns-then-matrix-j-ne0 : goal.returns-then-matrix-j-ne0
returns-then-matrix-j-ne0 c =
    let args = c.args in
    let one = masked-one args.check _ _ c.mask_of-mask.ensures c.if-matrix-j-ne0.true in
    sym (held-here args.matrix.now args.check c.loop-j.j (omega arith) one) ∙ c.loop-j.invariant

pub loop-j-preserved : goal.loop-j-preserved
loop-j-preserved c =
    let args = c.args in
    let none = masked-none args.check (get_or args.matrix.now c.loop-j.j 0) _ c.mask_of-mask.ensures c.if-matrix-j-ne0.false in
    sym (held-later args.matrix.now args.check c.loop-j.j (omega arith) (λ e. omega arith)) ∙ c.loop-j.invariant
