-- `router_questions::in_order` meets its contract: lists of other lengths are not in order. Assumes nothing.
use mathlib.Core.Path.{sym}
use lib.Dec.{leb}
use Rattle.parity.proofs.Alongside.{alongside-lengths}
use Rattle.router_questions.proofs.in_order.Goals as goal

-- other lengths
pub returns-then-lows-highs : goal.returns-then-lows-highs
returns-then-lows-highs c =
    let args = c.args in
    sym (alongside-lengths leb args.lows.now args.highs.now c.if-lows-highs.true)
