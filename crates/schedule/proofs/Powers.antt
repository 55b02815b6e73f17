-- The quotients q / ρ^s of a power of ρ are powers too. Assumes nothing.
use mathlib.Core.Path.{◌≡◌, sym, ap, ◌∙◌}
use Prim.Native.Nat.{ℕ, suc, ◌+◌, ◌-◌, ◌*◌, ◌/◌, ◌^◌, ◌≤◌, ◌<◌}
use native.Mathlib.Nat.{mul-div_cancel, one-le-pow, pow-suc}
use native.Mathlib.Omega.{arith}
use lib.Pow.{pow-add}

module _ (ρ b : ℕ) (pos : 0 < ρ) where
  power-quotient : (s : ℕ) → s ≤ b → ρ ^ b / ρ ^ s ≡ ρ ^ (b - s)
  power-quotient s le =
      let parts : b ≡ b - s + s = omega arith in
      ap (λ d. ρ ^ d / ρ ^ s) parts ∙ ap (λ p. p / ρ ^ s) (pow-add ρ (b - s) s) ∙ mul-div_cancel (ρ ^ (b - s)) (one-le-pow s ρ pos)

  pub quotient-some : (s : ℕ) → s ≤ b → 0 < ρ ^ b / ρ ^ s
  quotient-some s le = rw (power-quotient s le) (one-le-pow (b - s) ρ pos)

  pub quotient-times : (s : ℕ) → s ≤ b → ρ ^ b / ρ ^ s * ρ ^ s ≡ ρ ^ b
  quotient-times s le =
      let parts : b - s + s ≡ b = omega arith in
      ap (λ x. x * ρ ^ s) (power-quotient s le) ∙ sym (pow-add ρ (b - s) s) ∙ ap (λ d. ρ ^ d) parts

  pub quotient-next : (s : ℕ) → s < b → ρ ^ b / ρ ^ s ≡ ρ ^ b / ρ ^ suc s * ρ
  quotient-next s lt =
      let parts : b - s ≡ suc (b - suc s) = omega arith in
      power-quotient s (omega arith) ∙ ap (λ d. ρ ^ d) parts ∙ pow-suc ρ (b - suc s) ∙ ap (λ x. x * ρ) (sym (power-quotient (suc s) lt))
