-- `cycle_passes::rows::flag_rows` meets its contract: the first i rows have their flags, and the next flag is as it was. Assumes nothing.
use mathlib.Core.Path.{refl}
use native.Mathlib.Omega.{arith}
use borrow.Author.Tests.{eq-eqb, ne_eqb}
use Rattle.cycle_passes.proofs.Pass.{pass-here, pass-next}
use Rattle.cycle_passes.proofs.rows.flag_rows.Goals as goal

pub loop-i-preserved : goal.loop-i-preserved
loop-i-preserved c =
    let loop = c.loop-i in
    let here = pass-here loop.invariant in
    pass-next loop.invariant refl (grind (arith, eq-eqb, ne_eqb)) (omega arith)
