-- Only serves the code's own contracts: the rows that a lookup goes through, and their match bytes.
use Rattle.std.specs.Prelude.{◌≡◌, Bool, List, ℕ, ◌*◌, ◌≤◌, length, get_or, take, drop}
use Rattle.acam.specs.Cell.{line_byte}

-- m rows of n cells, with m lines, and no more inputs than cells in a row
pub record RowsLent (cell_count line_count input_count n m : ℕ) : Type 0 where
  pub inputs : input_count ≤ n
  pub cells : m * n ≤ cell_count
  pub lines : line_count ≡ m
  pub few : m ≤ 4096

-- the match byte of row i, of n cells, for inputs to its first cells, which are all below q or not
abbrev pub byte_of : Bool → List ℕ → List ℕ → List ℕ → ℕ → ℕ → ℕ
byte_of below inputs cells lines n i = line_byte (get_or lines i 0) below inputs (take (length inputs) (drop (i * n) cells))
