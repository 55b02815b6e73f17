-- `acam::order::ones` meets its contract: the count of a byte's set bits is its weight. Assumes nothing.
use native.Mathlib.Omega.{arith}
use Rattle.acam.proofs.Weights.{ones-weight}
use Rattle.acam.proofs.order.ones.Goals as goal

pub returns : goal.returns
returns c = ones-weight c.args.column (omega arith)
