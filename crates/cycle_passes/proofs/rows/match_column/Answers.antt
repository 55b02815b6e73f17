-- `cycle_passes::rows::match_column` meets its contract: the first i bytes are match bytes, and the rest are cells. Assumes nothing.
use mathlib.Core.Path.{refl}
use native.Mathlib.Omega.{arith}
use Rattle.cycle_passes.proofs.Pass.{pass-here, pass-next}
use Rattle.cycle_passes.proofs.rows.match_column.Goals as goal

pub loop-i-preserved : goal.loop-i-preserved
loop-i-preserved c =
    let loop = c.loop-i in
    let here = pass-here loop.invariant in
    pass-next loop.invariant refl (grind arith) (omega arith)
