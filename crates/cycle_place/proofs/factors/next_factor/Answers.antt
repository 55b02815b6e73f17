-- `cycle_place::factors::next_factor` meets its contract: ρ divides the next number where the rest is ρ − 1. Assumes nothing.
use mathlib.Core.Path.{◌≡◌, ap, ◌∙◌}
use mathlib.Core.Logic.{◌≢◌}
use Prim.Native.Nat.{ℕ, suc, ◌+◌, ◌-◌, ◌%◌, ◌<◌}
use native.Mathlib.Nat.{suc-mod, mod-lt, mod-eq_of_lt}
use native.Mathlib.Numerals.{add-one}
use native.Mathlib.Omega.{arith}
use borrow.Author.Tests.{ne_eqb}
use Rattle.cycle_place.proofs.factors.next_factor.Goals as goal

module _ (a ρ : ℕ) (pos : 0 < ρ) where
  rest-next : (a + 1) % ρ ≡ suc (a % ρ) % ρ
  rest-next = ap (λ x. x % ρ) (add-one a) ∙ suc-mod a ρ

  apart_next : a % ρ ≢ ρ - 1 → (a + 1) % ρ ≢ 0
  apart_next e z = omega (arith, rest-next, mod-eq_of_lt {n = suc (a % ρ)} {m = ρ} (omega (arith, mod-lt a pos)))

-- ρ does not
pub returns : goal.returns
returns c =
    rw (ne_eqb ((c.args.factor + 1) % c.args.radix) 0 (apart_next c.args.factor c.args.radix c.requires.radix_nonzero c.if-factor-radix.false))
