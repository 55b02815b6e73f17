-- `shape::byte::largest_input` meets its contract: the largest so far is that of the inputs before the one in hand. Assumes nothing.
use native.Mathlib.Omega.{arith}
use Rattle.parity.proofs.Greatest.{greatest-next}
use Rattle.shape.proofs.byte.largest_input.Goals as goal

pub loop-input-preserved : goal.loop-input-preserved
loop-input-preserved c =
    let more = greatest-next c.args.inputs.now c.loop-input.input-index (omega arith) in
    grind arith
