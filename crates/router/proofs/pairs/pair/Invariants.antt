-- `router::pairs::pair` meets its contract: the pairs that stand in the buffer, with those of the bytes that are left, are all of them. Assumes nothing.
use mathlib.Core.Path.{◌≡◌}
use mathlib.Core.List.{◌++◌}
use Prim.Native.Nat.{◌+◌}
use lib.ListN.{take, drop}
use Rattle.router_ranges.specs.Ranges.{paired}
use Rattle.router.proofs.pairs.pair.Given as goal

abbrev pub invariant-loop-i : goal.invariant-loop-i
invariant-loop-i l = take (l.i + l.i) l.to ++ paired l.top (drop l.i l.xs) (drop l.i l.ys) ≡ paired l.top l.xs l.ys
