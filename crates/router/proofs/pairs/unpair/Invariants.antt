-- `router::pairs::unpair` meets its contract: the first i places of both buffers are written, the rest is as it was. Assumes nothing.
use mathlib.Core.Path.{◌≡◌}
use mathlib.Core.List.{List}
use Prim.Native.Nat.{ℕ, suc, ◌-◌, ◌*◌}
use lib.ListN.{get_or}
use Rattle.parity.proofs.Filled.{filled}
use Rattle.router.proofs.pairs.unpair.Given as goal

-- the low and the high of a feature
abbrev pub low : ℕ → List ℕ → ℕ → ℕ
low top pairs i = top - get_or pairs (suc (2 * i)) 0

abbrev pub high : List ℕ → ℕ → ℕ
high pairs i = get_or pairs (2 * i) 0

abbrev pub invariant-loop-i : goal.invariant-loop-i
invariant-loop-i l =
    (l.lows ≡ filled (low l.top l.pairs) l.initial.lows l.i) × (l.highs ≡ filled (high l.pairs) l.initial.highs l.i)
