-- `shape::byte::largest_input` meets its contract: the largest so far is that of the inputs before the one in hand. Assumes nothing.
use mathlib.Core.Path.{◌≡◌}
use lib.ListN.{take}
use Rattle.parity.specs.Lists.{greatest}
use Rattle.shape.proofs.byte.largest_input.Given as goal

abbrev pub invariant-loop-input : goal.invariant-loop-input
invariant-loop-input l = l.most ≡ greatest (take l.input-index l.inputs)
