-- The distance of the code: two codewords of a shape taken that differ in at most τ cells are equal, as they are digit by digit. Assumes nothing.
use mathlib.Core.Path.{◌≡◌, sym, ◌∙◌, ap}
use mathlib.Core.Logic.{◌≢◌}
use mathlib.Core.List.{List}
use Prim.Native.Nat.{ℕ, ◌%◌, ◌≤◌, ◌<◌}
use native.Mathlib.Omega.{arith}
use lib.ListN.{length, get_or, get_or-map}
use lib.Seq.{ext_get_or}
use Rattle.parity.specs.Lists.{differences}
use Rattle.parity.specs.Shape.{digit, levels, checks, columns}
use Rattle.parity.specs.Matrix.{matrix, support}
use Rattle.parity.specs.Codeword.{Codeword}
use Rattle.parity.specs.Claims.{RightMatrix, DistanceClaim}
use Rattle.parity.specs.declared.Shape.{Shape}
use Rattle.parity.proofs.Remainders.{Same, same-eq, same-sym, same-trans, same-minus, same-zero}
use Rattle.parity.proofs.Digits.{digit-below, digits-equal}
use Rattle.parity.proofs.Sums.{check_sum, digit_sum-check_sum}
use Rattle.parity.proofs.Taken.{limits}
use Rattle.parity.proofs.MatrixFacts.{matrix_claim}
use Rattle.parity.proofs.Changes.{changes}
use Rattle.parity.proofs.Detection.{Column, unchanged}

module _ (s : Shape) (m : RightMatrix s) where
  -- a codeword's check sums are 0 mod ρ
  check-zero :
      {row : List ℕ} → Codeword s row → (ℓ d : ℕ) → ℓ < checks s → d < s.digits
      → Same s.radix (check_sum (digit s.radix d) ℓ (matrix s) row) 0
  unfolding support
  check-zero {row} c ℓ d lt ld =
      same-zero (ap (λ n. n % s.radix) (sym (digit_sum-check_sum s.radix d ℓ (matrix s) row (c.sized ∙ sym m.sized))) ∙ c.balanced ℓ d lt ld)

  module _ (pos : 0 < s.radix) (most : s.errors ≤ 3) (x y : List ℕ) (cx : Codeword s x) (cy : Codeword s y) (few : differences x y ≤ s.errors) where
    -- for each digit: the columns are as asked and the check rows balance, so no digit is changed
    digits-agree : (d : ℕ) → d < s.digits → (j : ℕ) → digit s.radix d (get_or x j 0) ≡ digit s.radix d (get_or y j 0)
    digits-agree d ld j =
        let f : ℕ → ℕ = digit s.radix d in
        let found = changes f (λ v. digit-below s.radix d v pos) (matrix s) x y (omega arith) (omega arith) in
        let inside : (i : ℕ) → i < length (matrix s) → i < columns s = λ i lt. omega arith in
        let none : length found.entries ≡ 0 =
        unchanged pos (checks s) found.entries (omega (arith, found.few)) most
        (found.each (Column s.errors (checks s))
        (λ i lt. let h = inside i lt in record { nonzero = m.nonzero i h; in_checks = m.in_checks i h; odd = λ three. m.odd three i h }))
        (found.pairs (λ c e. 2 ≤ s.errors → c ≢ e) (λ i k ik lt two. m.distinct two i k ik (inside k lt)))
        (λ ℓ lt. same-minus pos (same-eq (found.sums ℓ)) (same-trans (check-zero cy ℓ d lt ld) (same-sym (check-zero cx ℓ d lt ld))))
        in
        sym (get_or-map f x j 0) ∙ ap (λ row. get_or row j (f 0)) (found.agree none) ∙ get_or-map f y j 0

    distance : x ≡ y
    unfolding levels
    distance =
        ext_get_or 0 x y (cx.sized ∙ sym cy.sized)
        (λ j lt.
        let h : j < columns s = omega arith in
        digits-equal s.radix s.digits pos (cx.below j h) (cy.below j h) (λ d ld. digits-agree d ld j))

pub distance_claim : DistanceClaim
distance_claim s t = let l = limits s t in distance s (matrix_claim s t) (omega arith) l.errors_high
