-- `shape::byte::largest` meets its contract: the largest so far is that of the bytes before the one in hand. Assumes nothing.
use native.Mathlib.Omega.{arith}
use Rattle.parity.proofs.Greatest.{greatest-next}
use Rattle.shape.proofs.byte.largest.Goals as goal

pub loop-byte-preserved : goal.loop-byte-preserved
loop-byte-preserved c =
    let more = greatest-next c.args.bytes.now c.loop-byte.byte-index (omega arith) in
    grind arith
