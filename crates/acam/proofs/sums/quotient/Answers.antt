-- `acam::sums::quotient` meets its contract, by the law of the reciprocal. Assumes nothing.
use mathlib.Core.Path.{◌∙◌, ap}
use Prim.Native.Nat.{◌*◌, ◌/◌}
use native.Mathlib.Nat.{mul-le-mul}
use native.Mathlib.Omega.{arith}
use Rattle.acam.proofs.Reciprocal.{by_product}
use Rattle.acam.proofs.sums.quotient.Goals as goal

pub returns : goal.returns
returns c d pos high e =
    let v = c.args.value in
    ap (λ m. v * m / 65536) e
    ∙ by_product 65536 v d (omega (arith, mul-le-mul {n₁ = v} {m₁ = d} {n₂ = 255} {m₂ = 256} (omega arith) high)) pos
