-- The digit that brings a sum to 0 mod ρ: what is missing to the next multiple of ρ, and 0 exactly where the sum is one. Assumes nothing.
use mathlib.Core.Path.{◌≡◌, ◌∙◌, ap}
use mathlib.Core.Logic.{⊎_elim}
use Prim.Native.Nat.{ℕ, ◌+◌, ◌-◌, ◌*◌, ◌/◌, ◌%◌, ◌≤◌, ◌<◌}
use native.Mathlib.Nat.{div-add-mod', mod-lt, mod_self, mod-eq_of_lt, div-eq_of_lt-le, sub-zero, eq-zero-or-pos}
use native.Mathlib.Omega.{arith}
use Rattle.acam.specs.Digits.{missing}

module _ (ρ n : ℕ) (pos : 0 < ρ) where
  left : n / ρ * ρ + n % ρ ≡ n
  left = div-add-mod' n ρ

  pub missing-none : n % ρ ≡ 0 → missing ρ n ≡ 0
  missing-none e = ap (λ x. (ρ - x) % ρ) e ∙ ap (λ x. x % ρ) (sub-zero ρ) ∙ mod_self ρ

  missing-some : 0 < n % ρ → missing ρ n ≡ ρ - n % ρ
  missing-some h = mod-eq_of_lt (omega arith)

  pub none-missing : missing ρ n ≡ 0 → n % ρ ≡ 0
  none-missing e =
      ⊎_elim (λ z. z) (λ h. absurd (omega (arith, missing-some h, mod-lt n pos))) (eq-zero-or-pos (n % ρ))

  -- the multiple is not below the sum, and the way up to it is what is missing
  pub multiple-over : n ≤ (n + ρ - 1) / ρ * ρ
  multiple-over = omega (arith, div-add-mod' (n + ρ - 1) ρ, mod-lt (n + ρ - 1) pos)

  pub to-multiple : (n + ρ - 1) / ρ * ρ - n ≡ missing ρ n
  to-multiple =
      ⊎_elim
      (λ z. ap (λ x. x * ρ - n) (div-eq_of_lt-le {k = n / ρ} ρ (omega (arith, left)) (omega (arith, left)))
      ∙ omega (arith, left, missing-none z))
      (λ h. ap (λ x. x * ρ - n) (div-eq_of_lt-le {k = n / ρ + 1} ρ (omega (arith, left)) (omega (arith, left, mod-lt n pos)))
      ∙ omega (arith, left, missing-some h))
      (eq-zero-or-pos (n % ρ))
