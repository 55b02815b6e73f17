-- `cycle_passes::totals::count_flags` meets its contract: the flags that are passed are counted. Assumes nothing.
use mathlib.Core.Path.{refl}
use mathlib.Core.Bool.{true, false}
use Prim.Native.Nat.{ℕ}
use native.Mathlib.Omega.{arith}
use lib.Seq.{length-take-le}
use borrow.Author.Tests.{eq-eqb, ne_eqb}
use Rattle.array_memory.specs.Blocks.{count_flagged}
use Rattle.array_memory.proofs.FlagCounts.{count_low, count_next}
use Rattle.cycle_passes.proofs.totals.count_flags.Goals as goal

pub loop-flag-init : goal.loop-flag-init
unfolding count_flagged
loop-flag-init c = refl

pub overflow_add-count : goal.overflow_add-count
overflow_add-count c = omega (arith, count_low, length-take-le {A = ℕ})

pub loop-flag-preserved : goal.loop-flag-preserved
loop-flag-preserved c =
    let next = count_next c.args.block.now c.loop-flag.flag-index (omega arith) in
    let yes = next true in
    let no = next false in
    grind (arith, eq-eqb, ne_eqb)
