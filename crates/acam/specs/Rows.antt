-- Only serves the code's own contracts: what its functions ask of the shapes, rows, columns and sums that they are lent.
use Rattle.std.specs.Prelude.{◌≡◌, List, ℕ, ◌+◌, ◌≤◌, ◌<◌, length, get_or}
use Rattle.parity.specs.Shape.{checks as checks_of, columns as columns_of}
use Rattle.parity.specs.Matrix.{rule_columns}
use Rattle.parity.specs.Questions.{Taken}
use Rattle.parity.specs.declared.Shape.{Shape}
use Rattle.shape.specs.Bounds.{Within}
use Rattle.acam.specs.Digits.{completed}
use Rattle.acam.specs.Matrices.{matrix_array}

-- a shape taken, and its r check columns
pub record TakenWith (s : Shape) (r : ℕ) : Type 0 where
  pub taken : Taken s
  pub checks : r ≡ checks_of s

-- a shape taken, its r check columns, and its n columns in all, by the number of what is lent for them
pub record Measured (s : Shape) (r n : ℕ) : Type 0 where
  pub taken : Taken s
  pub checks : r ≡ checks_of s
  pub columns : n ≡ columns_of s

-- a row of n cells, and the columns of its k rule cells
pub record RulesLent (s : Shape) (cell_count : ℕ) (rule_bytes : List ℕ) : Type 0 where
  pub taken : Taken s
  pub cells : cell_count ≡ columns_of s
  pub rules : rule_bytes ≡ rule_columns s.errors (checks_of s) s.width

-- a row of n cells to test, and the check matrix
pub record ToTest (s : Shape) (r cell_count : ℕ) (column_bytes : List ℕ) : Type 0 where
  pub taken : Taken s
  pub checks : r ≡ checks_of s
  pub cells : cell_count ≡ columns_of s
  pub matrix : column_bytes ≡ matrix_array s

-- a part for rule columns, of which there are as many
pub record RulesFit (τ r part : ℕ) : Type 0 where
  pub checks : r ≤ 8
  pub enough : length (rule_columns τ r part) ≡ part

-- cells to add up, each over a power of ρ, by a column each
pub record ToSum (cell_count column_count power : ℕ) : Type 0 where
  pub divisor : Within 1 power 256
  pub columns : cell_count ≤ column_count
  pub few : column_count ≤ 255

-- 8 sums with room for a value
pub record RoomFor (sums : List ℕ) (value : ℕ) : Type 0 where
  pub sized : length sums ≡ 8
  pub room : (l : ℕ) → l < 8 → get_or sums l 0 + value < 65536

-- a byte to divide, and the reciprocal of a power of ρ
pub record ToDivide (value reciprocal : ℕ) : Type 0 where
  pub byte : value < 256
  pub most : reciprocal ≤ 65537

-- check cells with room for one more digit each
pub record ToComplete (cells sums : List ℕ) (ρ power : ℕ) : Type 0 where
  pub radix : Within 1 ρ 256
  pub few : length cells ≤ 8
  pub room : (l : ℕ) → l < length cells → completed cells sums ρ power l < 256
