-- These definitions only serve the code's own contracts: the bytes that a pass over the rows leaves, one and all.
use Rattle.std.specs.Prelude.{◌≡◌, cond, List, ℕ, ◌+◌, ◌*◌, ◌%◌, ◌≤◌, ◌<◌, eqb, length, get_or}
use Rattle.parity.specs.Lists.{tabulate}
use Rattle.parity.specs.Match.{line_gives}
use Rattle.acam.specs.Cell.{cell_match}

-- the cells of column j of m rows of n cells
abbrev pub column_cell : ℕ → ℕ → List ℕ → ℕ → ℕ
column_cell n j cells = λ i. get_or cells (i * n + j) 0

abbrev pub column_cells : ℕ → ℕ → List ℕ → ℕ → List ℕ
column_cells n j cells m = tabulate m (column_cell n j cells)

-- the rows' match bytes for input x in one column alone, by its cells
abbrev pub column_match : ℕ → List ℕ → List ℕ → ℕ → ℕ
column_match x lines column = λ i. cell_match (get_or lines i 0) x (get_or column i 0)

abbrev pub column_matches : ℕ → List ℕ → List ℕ → List ℕ
column_matches x lines column = tabulate (length column) (column_match x lines column)

-- .. and by their lines alone, where every row's cells say the same
abbrev pub given_byte : ℕ → List ℕ → ℕ → ℕ
given_byte said lines = λ i. line_gives (get_or lines i 0) said

abbrev pub given_bytes : ℕ → List ℕ → ℕ → List ℕ
given_bytes said lines m = tabulate m (given_byte said lines)

-- the counters' remainders
abbrev pub reduced_byte : ℕ → List ℕ → ℕ → ℕ
reduced_byte ρ counters = λ i. get_or counters i 0 % ρ

abbrev pub reduced_bytes : ℕ → List ℕ → List ℕ
reduced_bytes ρ counters = tabulate (length counters) (reduced_byte ρ counters)

-- the counters with the match bytes added, mod ρ
abbrev pub counted_byte : ℕ → List ℕ → List ℕ → ℕ → ℕ
counted_byte ρ counters matches = λ i. (get_or counters i 0 + get_or matches i 0) % ρ

abbrev pub counted_bytes : ℕ → List ℕ → List ℕ → List ℕ
counted_bytes ρ counters matches = tabulate (length counters) (counted_byte ρ counters matches)

-- the flags, with 1 for each row whose sign isn't the quiet one
abbrev pub flagged_byte : List ℕ → ℕ → List ℕ → ℕ → ℕ
flagged_byte signs quiet flags = λ i. cond (eqb (get_or signs i 0) quiet) (get_or flags i 0) 1

abbrev pub flagged_bytes : List ℕ → ℕ → List ℕ → List ℕ
flagged_bytes signs quiet flags = tabulate (length flags) (flagged_byte signs quiet flags)

-- ---- what the passes ask of their buffers

-- one column of m rows of n cells
pub record ColumnLent (cell_count n j m : ℕ) : Type 0 where
  pub column : j < n
  pub cells : m * n ≤ cell_count

-- rows to count in: as many lines and cells as counters, and each counter below ρ
pub record ToCount (counter_bytes line_bytes : List ℕ) (cell_count ρ : ℕ) : Type 0 where
  pub lines : length line_bytes ≡ length counter_bytes
  pub cells : cell_count ≡ length counter_bytes
  pub below : (i : ℕ) → i < length counter_bytes → get_or counter_bytes i 0 < ρ
