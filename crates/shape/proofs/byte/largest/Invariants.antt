-- `shape::byte::largest` meets its contract: the largest so far is that of the bytes before the one in hand. Assumes nothing.
use mathlib.Core.Path.{◌≡◌}
use lib.ListN.{take}
use Rattle.parity.specs.Lists.{greatest}
use Rattle.shape.proofs.byte.largest.Given as goal

abbrev pub invariant-loop-byte : goal.invariant-loop-byte
invariant-loop-byte l = l.most ≡ greatest (take l.byte-index l.bytes)
