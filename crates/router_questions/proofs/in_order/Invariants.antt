-- `router_questions::in_order` meets its contract: what has been gathered and what is left give the whole test's answer. Assumes nothing.
use mathlib.Core.Path.{◌≡◌}
use mathlib.Core.Bool.{◌&&◌}
use lib.Dec.{leb}
use Rattle.parity.proofs.Alongside.{alongside_from}
use Rattle.router_questions.proofs.in_order.Given as goal

abbrev pub invariant-loop-i : goal.invariant-loop-i
invariant-loop-i l = l.all && alongside_from leb l.lows l.highs l.i ≡ alongside_from leb l.lows l.highs 0
