-- The row of zeros, which a clear leaves everywhere, is sound. Assumes nothing.
use mathlib.Core.Path.{◌≡◌, refl, ap, ◌∙◌}
use mathlib.Core.List.{List, [], ◌∷◌}
use Prim.Native.Nat.{ℕ, ◌/◌, ◌%◌, ◌^◌}
use native.Mathlib.Nat.{zero-div, zero-mod, one-le-pow}
use native.Mathlib.Omega.{arith}
use lib.ListN.{replicate, length-replicate}
use Rattle.parity.specs.Shape.{digit, levels, columns}
use Rattle.parity.specs.Matrix.{support}
use Rattle.parity.specs.Codeword.{Codeword, digit_sum}
use Rattle.parity.specs.Questions.{Taken}
use Rattle.parity.specs.declared.Shape.{Shape}
use Rattle.parity.proofs.ListLaws.{same_at}
use Rattle.parity.proofs.Taken.{limits}

zero-digits : (ρ d n : ℕ) (js : List ℕ) → digit_sum ρ d js (replicate n 0) ≡ 0
unfolding digit
zero-digits ρ d n [] = refl
zero-digits ρ d n (j ∷ js) =
    omega (
      arith,
      ap (λ v. v / ρ ^ d % ρ) (same_at {A = ℕ} n j 0) ∙ ap (λ v. v % ρ) (zero-div (ρ ^ d)) ∙ zero-mod ρ,
      zero-digits ρ d n js,
    )

pub zero_row : (s : Shape) → Taken s → Codeword s (replicate (columns s) 0)
unfolding levels
zero_row s t =
    record {
      sized = length-replicate (columns s) 0;
      below = λ j h. rw (same_at {A = ℕ} (columns s) j 0) (one-le-pow s.digits s.radix (omega (arith, (limits s t).radix_low)));
      balanced = λ ℓ d h k. ap (λ x. x % s.radix) (zero-digits s.radix d (columns s) (support s ℓ)) ∙ zero-mod s.radix;
    }
