-- The factors of a digit: there is one, and each is from 1 on and makes an input below q. Assumes nothing.
use mathlib.Core.Bool.{not}
use Prim.Native.Nat.{ℕ, suc, ◌-◌, ◌*◌, ◌/◌, ◌%◌, ◌^◌, ◌≤◌, ◌<◌}
use native.Mathlib.Nat.{mul-lt-mul_of_pos_right, mul-le-mul_left, one-le-pow}
use native.Mathlib.Omega.{arith}
use lib.Dec.{eqb}
use lib.ListN.{length}
use Rattle.parity.specs.Lists.{tabulate}
use Rattle.parity.specs.Shape.{levels}
use Rattle.parity.specs.declared.Shape.{Shape}
use Rattle.parity.proofs.ListLaws.{Each, each-tabulate, each_keep}
use Rattle.schedule.specs.Schedule.{factors}
use Rattle.schedule.proofs.All.{All, all-each}
use Rattle.schedule.proofs.Powers.{quotient-some, quotient-times, quotient-next}
use Rattle.schedule.proofs.Counting.{factors-count}

module _ (shape : Shape) (two : 2 ≤ shape.radix) (s : ℕ) (lt : s < shape.digits) where
  pub factors-some : 0 < length (factors shape s)
  unfolding levels
  factors-some =
      let ρ : ℕ = shape.radix in
      let b : ℕ = shape.digits in
      let pos : 0 < ρ = omega arith in
      omega (
        arith,
        factors-count shape pos s lt,
        quotient-some ρ b pos (suc s) lt,
        quotient-next ρ b pos s lt,
        mul-le-mul_left (ρ ^ b / ρ ^ suc s) two,
      )

  input-below : (a : ℕ) → a < levels shape / shape.radix ^ s → a * shape.radix ^ s < levels shape
  unfolding levels
  input-below a h =
      let pos : 0 < shape.radix = omega arith in
      rw (quotient-times shape.radix shape.digits pos s (omega arith)) at (mul-lt-mul_of_pos_right h (one-le-pow s shape.radix pos))

  pub factors-inputs : All (λ a. (1 ≤ a) × (a * shape.radix ^ s < levels shape)) (factors shape s)
  unfolding factors
  factors-inputs =
      let P : ℕ → Type 0 = λ a. (1 ≤ a) × (a * shape.radix ^ s < levels shape) in
      let m : ℕ = levels shape / shape.radix ^ s - 1 in
      let each : Each P (tabulate m suc) = each-tabulate P m suc (λ i l. (omega arith, input-below (suc i) (omega arith))) in
      all-each P (factors shape s) (each_keep P (λ a. not (eqb (a % shape.radix) 0)) (tabulate m suc) (λ j l p. each j l))
