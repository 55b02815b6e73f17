-- A division by d as a product with m / d + 1: exact where the value times d is below m. Assumes nothing.
use mathlib.Core.Path.{◌≡◌, ap}
use Prim.Native.Nat.{ℕ, ◌+◌, ◌*◌, ◌/◌, ◌%◌, ◌≤◌, ◌<◌}
use native.Mathlib.Nat.{div-add-mod', mod-lt, mul-le-mul_left, mul-le-mul_right, lt_of_mul-lt-mul_right, div-eq_of_lt-le}
use native.Mathlib.Omega.{arith}

module _ (m v d : ℕ) (small : v * d < m) (pos : 0 < d) where
  -- what the two divisions leave
  left : v / d * d + v % d ≡ v
  left = div-add-mod' v d

  over : m / d * d + m % d ≡ m
  over = div-add-mod' m d

  low_end : v / d * m ≤ v * (m / d + 1)
  low_end =
      omega (
        arith,
        ap (λ x. v / d * x) over,
        mul-le-mul_left {m = m % d} {n = d} (v / d) (omega (arith, mod-lt m pos)),
        mul-le-mul_right {m = v / d * d} {n = v} (m / d + 1) (omega (arith, left)),
      )

  high_end : v * (m / d + 1) < (v / d + 1) * m
  high_end =
      lt_of_mul-lt-mul_right d
      (omega (
        arith,
        ap (λ x. v * x) over,
        ap (λ x. x * m) left,
        mul-le-mul_right {m = v % d + 1} {n = d} m (omega (arith, mod-lt v pos)),
      ))

  pub by_product : v * (m / d + 1) / m ≡ v / d
  by_product = div-eq_of_lt-le m low_end high_end
