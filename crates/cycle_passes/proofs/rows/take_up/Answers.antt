-- `cycle_passes::rows::take_up` meets its contract: the bytes from i on are the column's. Assumes nothing.
use native.Mathlib.Omega.{arith}
use Rattle.cycle_passes.proofs.Pass.{back_end}
use Rattle.cycle_passes.proofs.rows.take_up.Goals as goal

pub returns : goal.returns
returns c = back_end c.loop-i.invariant.taken (omega arith)
