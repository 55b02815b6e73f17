-- The sizes of a shape taken: its columns fit an array of 255 bytes, and it has two levels at least. Assumes nothing.
use mathlib.Core.Path.{refl}
use Prim.Native.Nat.{ℕ, zero, suc, ◌+◌, ◌^◌, ◌≤◌}
use native.Mathlib.Nat.{one-le-pow, pow-suc, mul-le-mul_right}
use native.Mathlib.Omega.{arith}
use lib.Dec.{leb}
use borrow.Author.Tests.{leb-true}
use Rattle.parity.specs.Shape.{levels, largest, checks, columns}
use Rattle.parity.specs.Questions.{Taken}
use Rattle.parity.specs.declared.Shape.{Shape}
use Rattle.parity.proofs.ListLaws.{grid-at}
use Rattle.parity.proofs.Taken.{limits}
use Rattle.parity.proofs.Redundancy.{redundancy_claim}

-- r check columns and the rule columns that they carry are at most 255 ..
largest-high : (τ r : ℕ) → 1 ≤ τ → τ ≤ 3 → 1 ≤ r → r ≤ 8 → largest τ r + r ≤ 255
unfolding largest
largest-high τ r t1 t3 r1 r8 = leb-true _ _ (grid-at 3 8 (λ τ r. leb (largest τ r + r) 255) refl τ r t1 t3 r1 r8)

-- .. and so are the columns of a shape
pub columns-high : (s : Shape) → Taken s → columns s ≤ 255
unfolding columns
columns-high s t =
    let claim = redundancy_claim s t in
    omega (arith, largest-high s.errors (checks s) (limits s t).errors_low (limits s t).errors_high claim.low claim.high)

-- there are two levels at least
pub two-levels : (s : Shape) → Taken s → 2 ≤ levels s
unfolding levels
two-levels s t = go s.digits (limits s t).digits_low
  where
    go : (b : ℕ) → 1 ≤ b → 2 ≤ s.radix ^ b
    go zero h = absurd (omega arith)
    go (suc b) h =
        let some : 1 ≤ s.radix ^ b = one-le-pow b s.radix (omega (arith, (limits s t).radix_low)) in
        rw (pow-suc s.radix b) (omega (arith, (limits s t).radix_low, mul-le-mul_right s.radix some))
