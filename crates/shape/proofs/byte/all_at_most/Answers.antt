-- `shape::byte::all_at_most` meets its contract: the largest input is at most the bound exactly where all are. Assumes nothing.
use mathlib.Core.Path.{sym, ap, ◌∙◌}
use lib.Dec.{leb}
use Rattle.parity.proofs.Greatest.{greatest-within}
use Rattle.shape.proofs.byte.all_at_most.Goals as goal

-- the largest decides
pub returns : goal.returns
returns c =
    let a = c.args in
    ap (λ n. leb n a.bound) (c.from.ensures ∙ c.largest_input.ensures) ∙ sym (greatest-within a.bound a.inputs.now)
