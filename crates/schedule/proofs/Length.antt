-- The schedule has two openings and (q / ρ^z − 1) × W tests: over the digits of a sweep the numbers of factors add up to q / ρ^z − 1. Assumes nothing.
use mathlib.Core.Path.{◌≡◌, refl, ap, ◌∙◌}
use mathlib.Core.Bool.{Bool, true, false}
use mathlib.Core.List.{List, map}
use Prim.Native.Nat.{ℕ, suc, ◌+◌, ◌-◌, ◌*◌, ◌/◌, ◌^◌, ◌≤◌, ◌<◌}
use native.Mathlib.Nat.{div_self, div-lt_iff_lt-mul, one-le-pow, pow-le-pow_right}
use native.Mathlib.Omega.{arith}
use lib.Dec.{leb}
use lib.ListN.{length, length-map}
use borrow.Author.Tests.{leb-true, leb-false}
use Rattle.parity.specs.Shape.{levels, checks}
use Rattle.parity.specs.Matrix.{support, matrix_ones, lookups, cycle_steps}
use Rattle.parity.specs.Questions.{Taken}
use Rattle.parity.specs.declared.Shape.{Shape}
use Rattle.parity.proofs.Taken.{limits}
use Rattle.schedule.specs.Schedule.{Entry, factors, over_each, within, ending, of_digit, sweep, of_check, tests, schedule}
use Rattle.schedule.specs.Claims.{LengthClaim}
use Rattle.schedule.proofs.Sums.{length-joined, length-at_last, length-over_each, sum-steps, sum-times}
use Rattle.schedule.proofs.Powers.{quotient-some}
use Rattle.schedule.proofs.Counting.{factors-count}

-- the entries of one ℓ and s over a list of columns, before the last is marked
abbrev pub entries : Shape → ℕ → List ℕ → ℕ → List Entry
entries shape ℓ js s = over_each js (λ j. map (within ℓ s j) (factors shape s))

pub entries-length : (shape : Shape) (ℓ : ℕ) (js : List ℕ) (s : ℕ) → length (entries shape ℓ js s) ≡ length js * length (factors shape s)
entries-length shape ℓ js s = length-over_each js (λ j. map (within ℓ s j) (factors shape s)) _ (λ j. length-map (factors shape s) (within ℓ s j))

pub digit-length : (z : ℕ) (shape : Shape) (ℓ : ℕ) (js : List ℕ) (s : ℕ) → length (of_digit z shape ℓ js s) ≡ length js * length (factors shape s)
unfolding of_digit
digit-length z shape ℓ js s = length-at_last (ending z) (entries shape ℓ js s) ∙ entries-length shape ℓ js s

module _ (z : ℕ) (shape : Shape) (t : Taken shape) (ℓ : ℕ) (js : List ℕ) where
  pub length-step :
      (s : ℕ) → s < shape.digits
      → length (of_digit z shape ℓ js s) + length js * (levels shape / shape.radix ^ suc s) ≡ length js * (levels shape / shape.radix ^ s)
  length-step s lt =
      omega (
        arith,
        digit-length z shape ℓ js s,
        ap (λ x. length js * x) (factors-count shape (omega (arith, (limits shape t).radix_low)) s lt),
      )

  -- down to digit z ..
  length-down : z ≤ shape.digits → length (sweep z shape ℓ js) ≡ (levels shape / shape.radix ^ z - 1) * length js
  unfolding sweep levels
  length-down le =
      let ρ : ℕ = shape.radix in
      let b : ℕ = shape.digits in
      let q : ℕ = ρ ^ b in
      let J : ℕ = length js in
      let pos : 0 < ρ = omega (arith, (limits shape t).radix_low) in
      let next : (i : ℕ) → i < b - z → suc (b - suc i) ≡ b - i = λ i l. omega arith in
      let step : (i : ℕ) → i < b - z → length (of_digit z shape ℓ js (b - suc i)) + J * (q / ρ ^ (b - i)) ≡ J * (q / ρ ^ (b - suc i)) =
      λ i l. rw (next i l) at (length-step (b - suc i) (omega arith)) in
      let first : b - 0 ≡ b = omega arith in
      let last : b - (b - z) ≡ z = omega arith in
      let low : q / ρ ^ (b - 0) ≡ 1 = ap (λ d. q / ρ ^ d) first ∙ div_self (one-le-pow b ρ pos) in
      let high : q / ρ ^ (b - (b - z)) ≡ suc (q / ρ ^ z - 1) = ap (λ d. q / ρ ^ d) last ∙ omega (arith, quotient-some ρ b pos z le) in
      omega (
        arith,
        length-joined (b - z) (λ i. of_digit z shape ℓ js (b - suc i)),
        sum-steps (b - z) (λ i. length (of_digit z shape ℓ js (b - suc i))) (λ i. J * (q / ρ ^ (b - i))) step,
        ap (λ x. J * x) low,
        ap (λ x. J * x) high,
      )

  -- .. and beyond the highest there is none
  length_none : shape.digits < z → length (sweep z shape ℓ js) ≡ (levels shape / shape.radix ^ z - 1) * length js
  unfolding sweep levels
  length_none lt =
      let ρ : ℕ = shape.radix in
      let b : ℕ = shape.digits in
      let pos : 0 < ρ = omega (arith, (limits shape t).radix_low) in
      let none : b - z ≡ 0 = omega arith in
      let over : ρ ^ b ≤ ρ ^ z = pow-le-pow_right pos (omega arith) in
      let one : ρ ^ b / ρ ^ z < 2 = (div-lt_iff_lt-mul (one-le-pow z ρ pos)).1 (omega (arith, one-le-pow z ρ pos)) in
      let nothing : ρ ^ b / ρ ^ z - 1 ≡ 0 = omega arith in
      rw (none, nothing) (omega arith)

  pub sweep-length : length (sweep z shape ℓ js) ≡ (levels shape / shape.radix ^ z - 1) * length js
  sweep-length = go (leb z shape.digits) refl
    where
      go : (b : Bool) → leb z shape.digits ≡ b → length (sweep z shape ℓ js) ≡ (levels shape / shape.radix ^ z - 1) * length js
      go true e = length-down (leb-true z shape.digits e)
      go false e = length_none (leb-false z shape.digits e)

pub check-length :
    (z : ℕ) (shape : Shape) → Taken shape → (ℓ : ℕ)
    → length (of_check z shape ℓ) ≡ (levels shape / shape.radix ^ z - 1) * length (support shape ℓ)
unfolding of_check
check-length z shape t ℓ = sweep-length z shape t ℓ (support shape ℓ)

pub tests-length : (z : ℕ) (s : Shape) → Taken s → length (tests z s) ≡ lookups z s
unfolding tests lookups matrix_ones
tests-length z s t =
    length-joined (checks s) (of_check z s)
    ∙ sum-times (checks s) (levels s / s.radix ^ z - 1) (λ ℓ. length (of_check z s ℓ)) (λ ℓ. length (support s ℓ)) (λ ℓ h. check-length z s t ℓ)

-- .. and the two openings before them
pub schedule-length : (z : ℕ) (s : Shape) → Taken s → length (schedule z s) ≡ cycle_steps z s
unfolding schedule
schedule-length z s t = ap (λ n. suc (suc n)) (tests-length z s t)

pub length_claim : LengthClaim
length_claim z s t = (schedule-length z s t, tests-length z s t)
