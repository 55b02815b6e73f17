-- `cycle_sizes::count_ones` meets its contract: one more column has at most 8 ones. Assumes nothing.
use Prim.Native.Nat.{ℕ, zero, suc, ◌≤◌}
use native.Mathlib.Numerals.{add-one}
use native.Mathlib.Omega.{arith}
use lib.ListN.{take}
use mathlib.Core.Path.{ap}
use Rattle.parity.specs.Lists.{sum_over, sum_to}
use Rattle.parity.specs.Matrix.{bit, weight}
use Rattle.parity.proofs.ListLaws.{sum-take-suc}
use Rattle.parity.proofs.Sums.{bit_below}
use Rattle.cycle_sizes.proofs.count_ones.Goals as goal

-- a sum of bits is at most their number
bits-high : (n c : ℕ) → sum_to n (λ ℓ. bit ℓ c) ≤ n
bits-high zero c = omega arith
bits-high (suc n) c = omega (arith, bits-high n c, bit_below n c)

weight-high : (c : ℕ) → weight c ≤ 8
unfolding weight
weight-high c = bits-high 8 c

pub overflow_add-sum : goal.overflow_add-sum
overflow_add-sum c = omega (arith, weight-high)

pub loop-column-preserved : goal.loop-column-preserved
loop-column-preserved c =
    let columns = c.args.columns.now in
    let i = c.loop-column.column-index in (
      omega (arith, sum-take-suc weight columns i 0 (omega arith), ap (λ n. sum_over (take n columns) weight) (add-one i)),
      omega (arith, weight-high),
    )
