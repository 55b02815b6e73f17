-- `acam::sums::missing` meets its contract: by the law of the reciprocal the product is the next multiple of ρ. Assumes nothing.
use mathlib.Core.Path.{◌≡◌, ◌∙◌, ap}
use Prim.Native.Nat.{ℕ, ◌+◌, ◌-◌, ◌*◌, ◌/◌, ◌≤◌, ◌<◌}
use native.Mathlib.Nat.{mul-le-mul}
use native.Mathlib.Omega.{arith}
use Rattle.acam.specs.Digits.{missing}
use Rattle.acam.proofs.Reciprocal.{by_product}
use Rattle.acam.proofs.Missing.{multiple-over, to-multiple}
use Rattle.acam.proofs.sums.missing.Goals as goal

-- the product with the reciprocal is a division by ρ
divided : (n ρ : ℕ) → n < 65536 → 1 ≤ ρ → ρ ≤ 256 → (n + ρ - 1) * (4294967296 / ρ + 1) / 4294967296 ≡ (n + ρ - 1) / ρ
divided n ρ few low high =
    by_product 4294967296 (n + ρ - 1) ρ
    (omega (arith, mul-le-mul {n₁ = n + ρ - 1} {m₁ = ρ} {n₂ = 65790} {m₂ = 256} (omega arith) (omega arith))) (omega arith)

pub overflow_sub-result-2 : goal.overflow_sub-result-2
overflow_sub-result-2 c =
    let n = c.from-from.result in
    let ρ = c.args.radix in
    omega (arith, ap (λ x. x * ρ) (divided n ρ (omega arith) (omega arith) (omega arith)), multiple-over ρ n (omega arith))

pub returns : goal.returns
returns c =
    let n = c.from-from.result in
    let ρ = c.args.radix in
    ap (λ x. x * ρ - n) (divided n ρ (omega arith) (omega arith) (omega arith)) ∙ to-multiple ρ n (omega arith) ∙ ap (missing ρ) c.from-from.ensures
