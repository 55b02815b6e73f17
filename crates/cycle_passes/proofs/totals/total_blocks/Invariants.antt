-- `cycle_passes::totals::total_blocks` meets its contract: the blocks that are passed are counted, and the next starts where they end. Assumes
-- nothing.
use mathlib.Core.Path.{◌≡◌}
use mathlib.Core.List.{List}
use Prim.Native.Nat.{ℕ, ◌*◌, min}
use lib.ListN.{length}
use Rattle.array_memory.specs.Blocks.{count_flagged, block_at}
use Rattle.cycle_passes.proofs.Pass.{Pass}
use Rattle.cycle_passes.proofs.totals.total_blocks.Given as goal

abbrev pub total : List ℕ → ℕ → ℕ
total flags i = count_flagged (block_at flags i)

abbrev pub invariant-loop-total : goal.invariant-loop-total
invariant-loop-total l = record {
  counted : Pass (total l.flags) l.initial.totals l.total-index l.totals;
  starts : l.start ≡ min (l.total-index * 64) (length l.flags);
}
