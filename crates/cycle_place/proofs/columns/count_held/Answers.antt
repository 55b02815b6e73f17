-- `cycle_place::columns::count_held` meets its contract: the count so far is that of the columns passed. Assumes nothing.
use Prim.Native.Nat.{suc}
use native.Mathlib.Omega.{arith}
use lib.ListN.{get_or}
use Rattle.cycle_place.proofs.CheckRows.{masked-one, masked-none, before-next, before-high}
use Rattle.cycle_place.proofs.columns.count_held.Goals as goal

pub overflow_add-count : goal.overflow_add-count
overflow_add-count c =
    let cs = c.args.matrix.now in
    let ℓ = c.args.check in
    let i = c.loop-column.column-index in
    omega (
      arith,
      before-next cs ℓ i (omega arith),
      masked-one ℓ (get_or cs i 0) _ c.mask_of-mask.ensures c.if-column-mask-ne0.true,
      before-high cs ℓ (suc i),
      c.requires.few ℓ,
    )

pub loop-column-preserved : goal.loop-column-preserved
loop-column-preserved c =
    let i = c.loop-column.column-index in
    grind (arith, before-next c.args.matrix.now c.args.check i (omega arith), masked-one, masked-none)
