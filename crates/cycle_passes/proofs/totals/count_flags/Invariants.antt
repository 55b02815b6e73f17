-- `cycle_passes::totals::count_flags` meets its contract: the flags that are passed are counted. Assumes nothing.
use mathlib.Core.Path.{◌≡◌}
use lib.ListN.{take}
use Rattle.array_memory.specs.Blocks.{count_flagged}
use Rattle.cycle_passes.proofs.totals.count_flags.Given as goal

abbrev pub invariant-loop-flag : goal.invariant-loop-flag
invariant-loop-flag l = l.count ≡ count_flagged (take l.flag-index l.block)
