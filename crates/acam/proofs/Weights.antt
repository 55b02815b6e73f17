-- The weight of a column: the count of a byte's set bits is its weight. Assumes nothing.
use mathlib.Core.Path.{◌≡◌, sym, ◌∙◌, ap, ap₂}
use Prim.Native.Nat.{ℕ, zero, suc, ◌+◌, ◌/◌, ◌^◌, ◌<◌}
use native.Mathlib.Nat.{div-lt_iff_lt-mul, pow-suc, pow-zero, zero-lt-suc}
use native.Mathlib.Omega.{arith}
use lib.Count.{ones, ones_in, ones_step}
use Rattle.parity.specs.Lists.{sum_to}
use Rattle.parity.specs.Matrix.{bit, weight}
use Rattle.parity.proofs.Digits.{digit-zero, digit-suc}

-- a sum with its first summand apart
sum_to-front : (n : ℕ) (f : ℕ → ℕ) → sum_to (suc n) f ≡ f 0 + sum_to n (λ i. f (suc i))
sum_to-front zero f = omega arith
sum_to-front (suc n) f = omega (arith, sum_to-front n f)

-- a number below 2^d has no ones but those in its first d bits
ones-bits : (d c : ℕ) → c < 2 ^ d → ones c ≡ sum_to d (λ ℓ. bit ℓ c)
unfolding ones ones_in
ones-bits zero c h = let none : c ≡ 0 = omega (arith, pow-zero 2) in ap ones none
ones-bits (suc d) c h =
    let rest : ones (c / 2) ≡ sum_to d (λ ℓ. bit (suc ℓ) c)
    = ones-bits d (c / 2) ((div-lt_iff_lt-mul (zero-lt-suc 1)).1 (rw pow-suc at h)) ∙ ap (sum_to d) (λ i ℓ. sym (digit-suc 2 ℓ c) i) in
    ones_step c ∙ ap₂ ◌+◌ (sym (digit-zero 2 c)) rest ∙ sym (sum_to-front d (λ ℓ. bit ℓ c))

pub ones-weight : (c : ℕ) → c < 256 → ones c ≡ weight c
unfolding weight
ones-weight c h = ones-bits 8 c h
