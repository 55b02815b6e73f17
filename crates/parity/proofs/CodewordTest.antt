-- The test of a sound row passes exactly the sound rows. Assumes nothing.
use mathlib.Core.Path.{◌≡◌}
use mathlib.Core.Bool.{Bool, true, ◌&&◌, and-eq-true_iff}
use mathlib.Core.List.{List}
use Prim.Native.Nat.{ℕ, ◌%◌}
use native.Mathlib.Omega.{arith}
use lib.Dec.{eqb, ltb}
use lib.ListN.{length}
use borrow.Author.Tests.{eqb-true, eq-eqb, ltb-true, lt-ltb}
use Rattle.parity.specs.Lists.{every, every_to}
use Rattle.parity.specs.Shape.{levels, checks, columns}
use Rattle.parity.specs.Matrix.{support}
use Rattle.parity.specs.Codeword.{digit_sum, Codeword, is_codeword}
use Rattle.parity.specs.Claims.{CodewordClaim}
use Rattle.parity.specs.declared.Shape.{Shape}
use Rattle.parity.proofs.ListLaws.{every-at, every-passes, every_to-at, every_to-passes}

-- the three parts of the test: n cells, all below q ..
abbrev is_sized : Shape → List ℕ → Bool
is_sized s row = eqb (length row) (columns s)

abbrev is_below : Shape → List ℕ → Bool
is_below s row = every (λ v. ltb v (levels s)) row

-- the digits i of check row ℓ sum to 0 mod ρ
abbrev pub is_balanced : Shape → List ℕ → ℕ → ℕ → Bool
is_balanced s row ℓ i = eqb (digit_sum s.radix i (support s ℓ) row % s.radix) 0

pub codeword-test : (s : Shape) (row : List ℕ) → is_codeword s row ≡ true → Codeword s row
unfolding is_codeword
codeword-test s row e =
    let last = (and-eq-true_iff (is_sized s row && is_below s row) (every_to (checks s) (λ ℓ. every_to s.digits (is_balanced s row ℓ)))).0 e in
    let first = (and-eq-true_iff (is_sized s row) (is_below s row)).0 last.0 in
    let sized = eqb-true (length row) (columns s) first.0 in
    record {
      sized = sized;
      below = λ j h. ltb-true _ _ (every-at (λ v. ltb v (levels s)) row 0 first.1 j (omega arith));
      balanced = λ ℓ i h k. eqb-true _ _ (every_to-at s.digits (is_balanced s row ℓ) (every_to-at (checks s) _ last.1 ℓ h) i k);
    }

pub codeword-passes : (s : Shape) (row : List ℕ) → Codeword s row → is_codeword s row ≡ true
unfolding is_codeword
codeword-passes s row c =
    simp (
      eq-eqb (length row) (columns s) c.sized,
      every-passes (λ v. ltb v (levels s)) row 0 (λ j h. lt-ltb _ _ (c.below j (omega arith))),
      every_to-passes (checks s) _ (λ ℓ h. every_to-passes s.digits (is_balanced s row ℓ) (λ i k. eq-eqb _ _ (c.balanced ℓ i h k))),
    )

pub codeword_claim : CodewordClaim
codeword_claim s row = (codeword-test s row, codeword-passes s row)
