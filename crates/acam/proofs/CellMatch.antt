-- The byte that a line gives where one cell is fed: 0 or 1. Assumes nothing.
use mathlib.Core.Bool.{Bool, true, false, cond}
use Prim.Native.Nat.{ℕ, ◌≤◌}
use native.Mathlib.Omega.{arith}
use lib.Dec.{leb}
use Rattle.parity.proofs.Comparator.{line-high}
use Rattle.acam.specs.Cell.{cell_match}

pub cell-low : (line input cell : ℕ) → cell_match line input cell ≤ 1
cell-low line input cell = line-high line (cond (leb input cell) 1 0) (go (leb input cell))
  where
    go : (said : Bool) → cond said 1 0 ≤ 1
    go true = omega arith
    go false = omega arith
