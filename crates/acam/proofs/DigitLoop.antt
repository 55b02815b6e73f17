-- A loop over the digits of a shape that is taken: its power ρ^s, what it may ask the sums for, and that they are, mod ρ, those of digit s.
-- Assumes nothing.
use mathlib.Core.Path.{◌≡◌, sym, ◌∙◌, ap}
use mathlib.Core.List.{List}
use Prim.Native.Nat.{ℕ, suc, ◌+◌, ◌*◌, ◌/◌, ◌%◌, ◌^◌, ◌≤◌, ◌<◌}
use native.Mathlib.Nat.{pow-suc, pow-le-pow_right, one-le-pow, mul-le-mul_left}
use native.Mathlib.Numerals.{add-one}
use native.Mathlib.Omega.{arith}
use lib.ListN.{get_or}
use Rattle.parity.specs.Lists.{tabulate}
use Rattle.parity.specs.Shape.{digit, levels}
use Rattle.parity.specs.Questions.{Taken}
use Rattle.acam.specs.Rows.{ToSum}
use Rattle.parity.specs.declared.Shape.{Shape}
use Rattle.parity.proofs.ListLaws.{get_or-tabulate}
use Rattle.parity.proofs.Sums.{check_sum, check_sum-same}
use Rattle.parity.proofs.Remainders.{same-sym, same-mod}
use Rattle.parity.proofs.Taken.{limits}

module _ (shape : Shape) (t : Taken shape) (s : ℕ) where
  -- a level of s + 1 digits is a byte
  pub power-high : s < shape.digits → shape.radix ^ suc s ≤ 256
  unfolding levels
  power-high h =
      let within = limits shape t in
      let more : shape.radix ^ suc s ≤ shape.radix ^ shape.digits = pow-le-pow_right (omega arith) h in
      omega arith

  module _ (power : ℕ) (e : power ≡ shape.radix ^ s) where
    power-up : power * shape.radix ≡ shape.radix ^ suc s
    power-up = ap (λ x. x * shape.radix) e ∙ sym (pow-suc shape.radix s)

    pub power-next : power * shape.radix ≡ shape.radix ^ (s + 1)
    power-next = power-up ∙ ap (λ n. shape.radix ^ n) (sym (add-one s))

    -- it can be divided by and moved on
    pub power-fits : s < shape.digits → (0 < power) × (power ≤ 256) × (power * shape.radix ≤ 256)
    power-fits h =
        let within = limits shape t in
        let pos : 0 < power = rw e (one-le-pow s shape.radix (omega arith)) in
        let more : power * 1 ≤ power * shape.radix = mul-le-mul_left power (omega arith) in
        omega (arith, power-up, power-high h)

    -- cells over it can be added up
    pub sums-ask : s < shape.digits → (cell_count column_count : ℕ) → cell_count ≤ column_count → column_count ≤ 255 → ToSum cell_count column_count power
    sums-ask h cell_count column_count enough few =
        let fits = power-fits h in
        record { divisor = record { low = omega arith; high = omega arith }; columns = enough; few = few }

-- the sum of check row ℓ among those of the eight, mod ρ: a level over ρ^s and its digit s are congruent
pub sum-at :
    (ρ s power : ℕ) (cs cells sums : List ℕ) → power ≡ ρ ^ s
    → sums ≡ tabulate 8 (λ ℓ. check_sum (λ v. v / power) ℓ cs cells)
    → (ℓ : ℕ) → ℓ < 8 → get_or sums ℓ 0 % ρ ≡ check_sum (digit ρ s) ℓ cs cells % ρ
unfolding digit
sum-at ρ s power cs cells sums e given ℓ h =
    ap (λ x. x % ρ)
    (ap (λ xs. get_or xs ℓ 0) given ∙ get_or-tabulate 8 (λ ℓ. check_sum (λ v. v / power) ℓ cs cells) ℓ 0 h
    ∙ ap (λ x. check_sum (λ v. v / x) ℓ cs cells) e)
    ∙ (check_sum-same (λ v. v / ρ ^ s) (λ v. v / ρ ^ s % ρ) (λ v. same-sym (same-mod ρ (v / ρ ^ s))) ℓ cs cells).rem
