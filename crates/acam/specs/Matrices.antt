-- Only serves the code's own contracts: the check matrix in an array of 255 bytes, and how its columns are counted by weight.
use Rattle.std.specs.Prelude.{Bool, cond, ◌&&◌, List, ◌++◌, ℕ, zero, suc, ◌+◌, ◌-◌, ◌%◌, eqb, leb, replicate}
use Rattle.parity.specs.Shape.{columns}
use Rattle.parity.specs.Matrix.{matrix}
use Rattle.parity.specs.declared.Shape.{Shape}

-- the numbers below 2^r with w ones
unfoldable pub choose : ℕ → ℕ → ℕ
choose r zero = 1
choose zero (suc w) = 0
choose (suc r) (suc w) = choose r w + choose r (suc w)

-- the weights of the columns that can be rule columns, for τ = 2 and τ = 3
abbrev pub rule_weight : ℕ → ℕ → Bool
rule_weight τ w = cond (eqb τ 2) (leb 2 w) (leb 3 w && eqb (w % 2) 1)

-- the check matrix in an array of 255 bytes, and 0 after it
unfoldable pub matrix_array : Shape → List ℕ
matrix_array s = matrix s ++ replicate (255 - columns s) 0
