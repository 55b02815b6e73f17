-- For question 6 on the memory: the lengths that are wanted of its buffers, and those that they have.
use Rattle.std.specs.Prelude.{◌≡◌, List, [], ◌∷◌, ◌++◌, ℕ, length}
use Rattle.parity.specs.Shape.{cell_count}
use Rattle.parity.specs.declared.Shape.{Shape}
use Rattle.array_memory.specs.Blocks.{blocks}
use Rattle.array_memory.specs.Memory.{Memory}

-- the lengths wanted of the parts of a memory that calls are lent: the cells; the lines; both; flags and totals; counters too; all
abbrev pub cells_wanted : Shape → List ℕ
cells_wanted s = cell_count s ∷ []

abbrev pub lines_wanted : Shape → List ℕ
lines_wanted s = s.rows ∷ []

abbrev pub array_wanted : Shape → List ℕ
array_wanted s = cells_wanted s ++ lines_wanted s

abbrev pub flagged_wanted : Shape → List ℕ
flagged_wanted s = s.rows ∷ blocks s ∷ []

abbrev pub rows_wanted : Shape → List ℕ
rows_wanted s = s.rows ∷ flagged_wanted s

abbrev pub all_wanted : Shape → List ℕ
all_wanted s = array_wanted s ++ rows_wanted s

-- the lengths of a memory's buffers, in the same order: flags and totals; counters too; all
abbrev pub flagged_lengths : Memory → List ℕ
flagged_lengths mem = length mem.flags ∷ length mem.totals ∷ []

abbrev pub rows_lengths : Memory → List ℕ
rows_lengths mem = length mem.counters ∷ flagged_lengths mem

abbrev pub all_lengths : Memory → List ℕ
all_lengths mem = length mem.cells ∷ length mem.lines ∷ rows_lengths mem

-- a memory whose counters, flags and totals have their lengths
pub record RowsSized (s : Shape) (mem : Memory) : Type 0 where
  pub counters : length mem.counters ≡ s.rows
  pub flags : length mem.flags ≡ s.rows
  pub totals : length mem.totals ≡ blocks s

-- a memory whose buffers all have their lengths
pub record Sized (s : Shape) (mem : Memory) : Type 0 where
  pub cells : length mem.cells ≡ cell_count s
  pub lines : length mem.lines ≡ s.rows
  pub rows : RowsSized s mem
