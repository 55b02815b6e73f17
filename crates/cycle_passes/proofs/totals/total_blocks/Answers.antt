-- `cycle_passes::totals::total_blocks` meets its contract: the blocks that are passed are counted, and the next starts where they end. Assumes
-- nothing.
use mathlib.Core.Path.{refl, ◌∙◌, ap}
use native.Mathlib.Omega.{arith}
use lib.ListN.{length}
use Rattle.parity.specs.Lists.{tabulate}
use Rattle.array_memory.specs.Blocks.{count_flagged, block_totals}
use Rattle.array_memory.proofs.BlockPlaces.{block-starts, block-part}
use Rattle.cycle_passes.proofs.Pass.{pass-next, pass-end}
use Rattle.cycle_passes.proofs.totals.total_blocks.Invariants.{total}
use Rattle.cycle_passes.proofs.totals.total_blocks.Goals as goal

pub loop-total-preserved : goal.loop-total-preserved
loop-total-preserved c =
    let loop = c.loop-total in
    let i = loop.total-index in
    let flags = c.args.flags.now in
    let inside = block-starts i (length flags) (omega (arith, c.requires)) in
    let part = block-part flags i loop.start c.block_end-end.result (omega arith) c.block_end-end.ensures in
    record {
      counted = pass-next loop.invariant.counted refl (c.count_flags.ensures ∙ ap count_flagged part) (omega arith);
      starts = omega arith;
    }

pub returns : goal.returns
unfolding block_totals
returns c = pass-end c.loop-total.invariant.counted (omega arith) ∙ ap (λ n. tabulate n (total c.args.flags.now)) c.requires
