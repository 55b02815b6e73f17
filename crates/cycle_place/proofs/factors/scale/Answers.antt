-- `cycle_place::factors::scale` meets its contract: the product is the number times ρ^e after e turns. Assumes nothing.
use mathlib.Core.Path.{◌≡◌, ap, ◌∙◌}
use Prim.Native.Nat.{ℕ, ◌+◌, ◌*◌, ◌^◌, ◌≤◌, ◌<◌}
use native.Mathlib.Nat.{pow-suc, mul_assoc, mul-le-mul_left, pow-le-pow_right}
use native.Mathlib.Numerals.{add-one}
use native.Mathlib.Omega.{arith}
use Rattle.cycle_place.proofs.factors.scale.Goals as goal

-- one turn more
product-next : (a r e : ℕ) → a * r ^ e * r ≡ a * r ^ (e + 1)
product-next a r e = rw (add-one, pow-suc) (mul_assoc a (r ^ e) r)

-- no product on the way is larger than the last
product-below : (a r e d : ℕ) → 0 < r → e ≤ d → a * r ^ e ≤ a * r ^ d
product-below a r e d pos h = mul-le-mul_left a (pow-le-pow_right pos h)

pub overflow_mul-product : goal.overflow_mul-product
overflow_mul-product c =
    let args = c.args in
    let turns = c.loop.counter in
    omega (
      arith,
      ap (λ x. x * args.radix) c.loop.invariant,
      product-next args.number args.radix turns,
      product-below args.number args.radix (turns + 1) args.exponent (omega arith) (omega arith),
    )

pub loop-preserved : goal.loop-preserved
loop-preserved c =
    ap (λ x. x * c.args.radix) c.loop.invariant ∙ product-next c.args.number c.args.radix c.loop.counter
