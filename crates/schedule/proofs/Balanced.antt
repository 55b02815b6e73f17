-- Digit sums from z on: the test passes exactly where all are 0 mod ρ, and from 0 on that is what makes a row of n cells below q sound.
-- Assumes nothing.
use mathlib.Core.Path.{◌≡◌, refl, sym, subst}
use mathlib.Core.Bool.{Bool, true, false}
use mathlib.Core.List.{List}
use Prim.Native.Nat.{ℕ, ◌+◌, ◌-◌, ◌%◌}
use native.Mathlib.Omega.{arith}
use lib.ListN.{length}
use borrow.Author.Tests.{eqb-true, eq-eqb}
use Rattle.parity.specs.Shape.{levels, checks, columns}
use Rattle.parity.specs.Matrix.{support}
use Rattle.parity.specs.Codeword.{digit_sum, Codeword, is_codeword}
use Rattle.parity.specs.Claims.{Below}
use Rattle.parity.specs.declared.Shape.{Shape}
use Rattle.parity.proofs.ListLaws.{every_to-at, every_to-passes}
use Rattle.parity.proofs.CodewordTest.{is_balanced, codeword-test, codeword-passes}
use Rattle.schedule.specs.Coarse.{BalancedFrom, is_balanced_from}
use Rattle.schedule.specs.Claims.{BalancedClaim, SoundClaim}

-- two tests that pass together
pub alike : (a b : Bool) → (a ≡ true → b ≡ true) → (b ≡ true → a ≡ true) → a ≡ b
alike true b h k = sym (h refl)
alike false true h k = k refl
alike false false h k = refl

module _ (z : ℕ) (s : Shape) (row : List ℕ) where
  tested : is_balanced_from z s row ≡ true → BalancedFrom z s row
  unfolding is_balanced_from
  tested e ℓ d h low high =
      let own : z + (d - z) ≡ d = omega arith in
      subst (λ d. digit_sum s.radix d (support s ℓ) row % s.radix ≡ 0) own
      (eqb-true _ _
      (every_to-at (s.digits - z) (λ i. is_balanced s row ℓ (z + i)) (every_to-at (checks s) _ e ℓ h) (d - z) (omega arith)))

  passed : BalancedFrom z s row → is_balanced_from z s row ≡ true
  unfolding is_balanced_from
  passed b =
      every_to-passes (checks s) _ λ ℓ h.
      every_to-passes (s.digits - z) (λ i. is_balanced s row ℓ (z + i)) (λ i l. eq-eqb _ _ (b ℓ (z + i) h (omega arith) (omega arith)))

pub balanced_claim : BalancedClaim
balanced_claim z s row = (tested z s row, passed z s row)

pub sound_claim : SoundClaim
sound_claim s row sized below = (
  λ b. record { sized = sized; below = below; balanced = λ ℓ d h k. b ℓ d h (omega arith) k },
  λ c ℓ d h low k. c.balanced ℓ d h k,
)

-- the same as tests
pub sound-test : (s : Shape) (row : List ℕ) → length row ≡ columns s → Below (levels s) (columns s) row → is_balanced_from 0 s row ≡ is_codeword s row
sound-test s row sized below =
    let sound = sound_claim s row sized below in
    alike (is_balanced_from 0 s row) (is_codeword s row)
    (λ e. codeword-passes s row (sound.0 ((balanced_claim 0 s row).0 e)))
    (λ e. (balanced_claim 0 s row).1 (sound.1 (codeword-test s row e)))

-- a sound row is balanced from any digit on
pub codeword-balanced : (z : ℕ) (s : Shape) (row : List ℕ) → Codeword s row → is_balanced_from z s row ≡ true
codeword-balanced z s row c = (balanced_claim z s row).1 (λ ℓ d h low k. c.balanced ℓ d h k)
