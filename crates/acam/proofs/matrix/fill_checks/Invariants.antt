-- `acam::matrix::fill_checks` meets its contract: the first l places hold 2^0 to 2^(l − 1), the rest is as it was. Assumes nothing.
use mathlib.Core.Path.{◌≡◌}
use Prim.Native.Nat.{◌^◌}
use Rattle.parity.proofs.Filled.{filled}
use Rattle.acam.proofs.matrix.fill_checks.Given as goal

abbrev pub invariant-loop-l : goal.invariant-loop-l
invariant-loop-l l = l.part ≡ filled (λ ℓ. 2 ^ ℓ) l.initial.part l.l
