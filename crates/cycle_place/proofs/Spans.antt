-- The spans q / ρ^d of the digits: each ρ times the next, and 1 past the last digit. Assumes nothing.
use mathlib.Core.Path.{◌≡◌, sym, ap, ◌∙◌}
use Prim.Native.Nat.{ℕ, suc, ◌+◌, ◌-◌, ◌*◌, ◌/◌, ◌^◌, ◌≤◌, ◌<◌}
use native.Mathlib.Nat.{one-mul, mul-le-mul_right, div_self, mul-div_cancel, div-le_self, one-le-pow}
use native.Mathlib.Omega.{arith}
use lib.Pow.{pow-add}
use Rattle.parity.specs.Shape.{levels}
use Rattle.parity.specs.Questions.{Taken}
use Rattle.parity.specs.declared.Shape.{Shape}
use Rattle.parity.proofs.Taken.{limits}
use Rattle.schedule.specs.Index.{span}
use Rattle.schedule.proofs.Powers.{quotient-next}
use Rattle.schedule.proofs.Factors.{factors-some}
use Rattle.schedule.proofs.Ranks.{span-some, span-step}

module _ (s : Shape) (t : Taken s) where
  two : 2 ≤ s.radix
  two = (limits s t).radix_low

  -- a span is a power of ρ
  pub span-as : (d : ℕ) → d ≤ s.digits → span s d ≡ s.radix ^ (s.digits - d)
  unfolding span levels
  span-as d le =
      let ρ = s.radix in
      let parts : s.digits ≡ s.digits - d + d = omega arith in
      ap (λ b. ρ ^ b / ρ ^ d) parts
      ∙ ap (λ p. p / ρ ^ d) (pow-add ρ (s.digits - d) d)
      ∙ mul-div_cancel (ρ ^ (s.digits - d)) (one-le-pow d ρ (omega (arith, two)))

  pub span-end : span s s.digits ≡ 1
  unfolding span levels
  span-end = div_self (one-le-pow s.digits s.radix (omega (arith, two)))

  pub span-high : (d : ℕ) → span s d ≤ 256
  unfolding span
  span-high d = omega (arith, div-le_self (levels s) (s.radix ^ d), (limits s t).levels_high)

  -- ρ^d is at most q
  pub unit-high : (d : ℕ) → d ≤ s.digits → s.radix ^ d ≤ 256
  unfolding levels
  unit-high d le =
      let ρ = s.radix in
      let parts : s.digits ≡ s.digits - d + d = omega arith in
      let whole : ρ ^ s.digits ≡ ρ ^ (s.digits - d) * ρ ^ d = ap (λ b. ρ ^ b) parts ∙ pow-add ρ (s.digits - d) d in
      let rest : 1 * ρ ^ d ≤ ρ ^ (s.digits - d) * ρ ^ d = mul-le-mul_right (ρ ^ d) (one-le-pow (s.digits - d) ρ (omega (arith, two))) in
      omega (arith, whole, rest, (limits s t).levels_high)

  module _ (d : ℕ) (h : d < s.digits) where
    pub span-times : span s d ≡ span s (suc d) * s.radix
    unfolding span levels
    span-times = quotient-next s.radix s.digits (omega (arith, two)) d h

    -- the next span as the code makes it
    pub span-power : s.radix ^ (s.digits - d - 1) ≡ span s (suc d)
    span-power =
        let same : s.digits - d - 1 ≡ s.digits - suc d = omega arith in
        ap (λ e. s.radix ^ e) same ∙ sym (span-as (suc d) h)

    -- .. and the own one, from it
    pub span-above : {next : ℕ} → next ≡ 1 * s.radix ^ (s.digits - d - 1) → next * s.radix ≡ span s d
    span-above e = ap (λ x. x * s.radix) (e ∙ one-mul _ ∙ span-power) ∙ sym span-times

    -- .. and that of a digit z below from the own one
    pub span-down : (z : ℕ) → z ≤ d → span s d * s.radix ^ (d - z) ≡ span s z
    span-down z le =
        let parts : s.digits - z ≡ s.digits - d + (d - z) = omega arith in
        ap (λ x. x * s.radix ^ (d - z)) (span-as d (omega arith))
        ∙ sym (pow-add s.radix (s.digits - d) (d - z))
        ∙ ap (λ e. s.radix ^ e) (sym parts)
        ∙ sym (span-as z (omega arith))

    -- a digit has a factor, so the next span is less
    pub span_less : (0 < span s (suc d)) × (span s (suc d) < span s d)
    span_less = (span-some s two d h, omega (arith, span-step s two d h, factors-some s two d h))
