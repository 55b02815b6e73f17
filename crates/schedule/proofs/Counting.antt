-- The paper's observation on the factors of a digit: as many a × ρ^s are at most v as v / ρ^s exceeds v / ρ^(s+1), and there are as many
-- factors as q / ρ^s exceeds q / ρ^(s+1). Assumes nothing.
use mathlib.Core.Path.{◌≡◌, refl, sym, ap, ◌∙◌}
use mathlib.Core.Bool.{Bool, true, false, cond, not}
use Prim.Native.Nat.{ℕ, zero, suc, ◌+◌, ◌-◌, ◌*◌, ◌/◌, ◌%◌, ◌^◌, ◌≤◌, ◌<◌, min}
use native.Mathlib.Nat.{mod-lt, div-add-mod', div-div-eq-div-mul, le-div_iff_mul-le, div-lt_iff_lt-mul, one-le-pow, pow-suc, zero-div}
use native.Mathlib.Omega.{arith}
use lib.Arith.{digits_div, mul_pred}
use lib.Dec.{eqb, leb, eqb-suc-zero}
use lib.ListN.{length}
use borrow.Author.Tests.{leb-true, leb-false}
use Rattle.parity.specs.Lists.{tabulate, sum_over, sum_to}
use Rattle.parity.specs.Shape.{levels}
use Rattle.parity.specs.declared.Shape.{Shape}
use Rattle.schedule.specs.Schedule.{factors}
use Rattle.schedule.proofs.Powers.{quotient-some, quotient-times, quotient-next}
use Rattle.schedule.proofs.Sums.{cond_same, sum-tabulate, sum-keep, length-sum}

-- what ρ does not divide
abbrev pub apart : ℕ → ℕ → Bool
apart ρ a = not (eqb (a % ρ) 0)

-- t / ρ grows exactly where ρ divides the next number
quotient-step : (ρ t : ℕ) → 0 < ρ → cond (apart ρ (suc t)) 1 0 + suc t / ρ ≡ suc (t / ρ)
quotient-step ρ t pos = go (suc t / ρ) (suc t % ρ) refl (div-add-mod' (suc t) ρ) (mod-lt (suc t) pos)
  where
    go : (c r : ℕ) → suc t / ρ ≡ c → c * ρ + r ≡ suc t → r < ρ → cond (not (eqb r 0)) 1 0 + suc t / ρ ≡ suc (t / ρ)
    go c (suc r) e parts lt =
        let low : t ≡ c * ρ + r = omega arith in
        rw (eqb-suc-zero r) (omega (arith, ap (λ x. x / ρ) low ∙ digits_div c {m = ρ} {r = r} (omega arith)))
    go zero zero e parts lt = absurd (omega arith)
    go (suc c) zero e parts lt =
        let low : t ≡ c * ρ + (ρ - 1) = omega arith in
        omega (arith, ap (λ x. x / ρ) low ∙ digits_div c {m = ρ} {r = ρ - 1} (omega arith))

-- so there are t − t / ρ such numbers from 1 to t ..
pub count-all : (ρ t : ℕ) → 0 < ρ → sum_to t (λ i. cond (apart ρ (suc i)) 1 0) + t / ρ ≡ t
count-all ρ zero pos = omega (arith, zero-div ρ)
count-all ρ (suc t) pos = omega (arith, quotient-step ρ t pos, count-all ρ t pos)

-- .. and of those from 1 to m as many with a × k ≤ v as there are up to v / k, if that is at most m
count-below :
    (ρ k v m : ℕ) → 0 < ρ → 0 < k
    → sum_to m (λ i. cond (apart ρ (suc i)) (cond (leb (suc i * k) v) 1 0) 0) + min m (v / k) / ρ ≡ min m (v / k)
count-below ρ k v zero pos posk = let first : min 0 (v / k) ≡ 0 = omega arith in rw first (omega (arith, zero-div ρ))
count-below ρ k v (suc m) pos posk = go (leb (suc m * k) v) refl (count-below ρ k v m pos posk)
  where
    sum : ℕ
    sum = sum_to m (λ i. cond (apart ρ (suc i)) (cond (leb (suc i * k) v) 1 0) 0)

    go : (b : Bool) → leb (suc m * k) v ≡ b → sum + min m (v / k) / ρ ≡ min m (v / k)
        → sum + cond (apart ρ (suc m)) (cond b 1 0) 0 + min (suc m) (v / k) / ρ ≡ min (suc m) (v / k)
    go true e rest =
        let within : suc m ≤ v / k = (le-div_iff_mul-le posk).1 (leb-true (suc m * k) v e) in
        let before : min m (v / k) ≡ m = omega arith in
        let after : min (suc m) (v / k) ≡ suc m = omega arith in
        rw after (omega (arith, quotient-step ρ m pos, rw before at rest))
    go false e rest =
        let beyond : v / k < suc m = (div-lt_iff_lt-mul posk).1 (leb-false (suc m * k) v e) in
        let same : min (suc m) (v / k) ≡ min m (v / k) = omega arith in
        rw same (omega (arith, cond_same (apart ρ (suc m)) 0))

-- ---- the factors of digit s

factors-sum :
    (shape : Shape) (s : ℕ) (g : ℕ → ℕ)
    → sum_over (factors shape s) g ≡ sum_to (levels shape / shape.radix ^ s - 1) (λ i. cond (apart shape.radix (suc i)) (g (suc i)) 0)
unfolding factors
factors-sum shape s g =
    let m : ℕ = levels shape / shape.radix ^ s - 1 in
    sum-keep g (apart shape.radix) (tabulate m suc) ∙ sum-tabulate (λ a. cond (apart shape.radix a) (g a) 0) m suc

module _ (shape : Shape) (pos : 0 < shape.radix) (s : ℕ) (lt : s < shape.digits) where
  pub factors-count : length (factors shape s) + levels shape / shape.radix ^ suc s ≡ levels shape / shape.radix ^ s
  unfolding levels
  factors-count =
      let ρ : ℕ = shape.radix in
      let b : ℕ = shape.digits in
      let m : ℕ = ρ ^ b / ρ ^ s - 1 in
      let c : ℕ = ρ ^ b / ρ ^ suc s in
      let some : 0 < c = quotient-some ρ b pos (suc s) lt in
      let low : m / ρ ≡ c - 1 =
      ap (λ x. (x - 1) / ρ) (quotient-next ρ b pos s lt) ∙ ap (λ x. x / ρ) (mul_pred some pos) ∙ digits_div (c - 1) (omega arith) in
      omega (arith, length-sum (factors shape s), factors-sum shape s (λ a. 1), count-all ρ m pos, quotient-some ρ b pos s (omega arith))

  pub answers-count :
      (v : ℕ) → v < levels shape
      → sum_over (factors shape s) (λ a. cond (leb (a * shape.radix ^ s) v) 1 0) + v / shape.radix ^ suc s ≡ v / shape.radix ^ s
  unfolding levels
  answers-count v below =
      let ρ : ℕ = shape.radix in
      let b : ℕ = shape.digits in
      let m : ℕ = ρ ^ b / ρ ^ s - 1 in
      let power : 0 < ρ ^ s = one-le-pow s ρ pos in
      let under : v / ρ ^ s < ρ ^ b / ρ ^ s = (div-lt_iff_lt-mul power).1 (rw (quotient-times ρ b pos s (omega arith)) below) in
      let least : min m (v / ρ ^ s) ≡ v / ρ ^ s = omega arith in
      let high : v / ρ ^ suc s ≡ v / ρ ^ s / ρ = ap (λ x. v / x) (pow-suc ρ s) ∙ sym (div-div-eq-div-mul v (ρ ^ s) ρ) in
      rw (high, factors-sum shape s) (rw least at (count-below ρ (ρ ^ s) v m pos power))
