-- `acam::matrix::fill_checks` meets its contract: the first l places hold 2^0 to 2^(l − 1), the rest is as it was. Assumes nothing.
use mathlib.Core.Path.{◌∙◌}
use Prim.Native.Nat.{◌^◌}
use native.Mathlib.Omega.{arith}
use Rattle.parity.specs.Matrix.{check_columns}
use Rattle.parity.proofs.Filled.{filled-all}
use Rattle.acam.proofs.matrix.fill_checks.Goals as goal

pub returns : goal.returns
unfolding check_columns
returns c =
    c.loop-l.invariant ∙ filled-all (λ ℓ. 2 ^ ℓ) c.args.part.now c.loop-l.l (omega arith)
