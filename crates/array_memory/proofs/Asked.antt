-- Question 6 holds of a part of the memory exactly where its buffers have their lengths. Assumes nothing.
use mathlib.Core.Path.{◌≡◌}
use mathlib.Core.Bool.{true}
use mathlib.Core.List.{List, [], ◌∷◌}
use Prim.Native.Nat.{ℕ}
use lib.ListN.{length}
use Rattle.parity.specs.Shape.{cell_count}
use Rattle.parity.specs.Questions.{lengths_question}
use Rattle.parity.specs.declared.Shape.{Shape}
use Rattle.parity.proofs.Alongside.{equal-alongside}
use Rattle.shape.proofs.Refusals.{length-lent}
use Rattle.array_memory.specs.Blocks.{blocks}
use Rattle.array_memory.specs.Memory.{Memory, with_array}
use Rattle.array_memory.specs.Lengths.{cells_wanted, lines_wanted, array_wanted, flagged_wanted, rows_wanted, all_wanted, RowsSized, Sized}
use Rattle.array_memory.specs.Lengths.{rows_lengths, all_lengths}

module _ (s : Shape) where
  -- the cells, the lines, and flags and totals, by their numbers
  pub cells-counted : (cells : ℕ) → (lengths_question (cells ∷ []) (cells_wanted s)).holds ≡ true → cells ≡ cell_count s
  cells-counted cells e = length-lent (cells ∷ []) (cells_wanted s) e 0

  pub lines-counted : (lines : ℕ) → (lengths_question (lines ∷ []) (lines_wanted s)).holds ≡ true → lines ≡ s.rows
  lines-counted lines e = length-lent (lines ∷ []) (lines_wanted s) e 0

  pub array-counted :
      (cells lines : ℕ) → (lengths_question (cells ∷ lines ∷ []) (array_wanted s)).holds ≡ true → (cells ≡ cell_count s) × (lines ≡ s.rows)
  array-counted cells lines e = let at = length-lent (cells ∷ lines ∷ []) (array_wanted s) e in (at 0, at 1)

  pub flagged-counted :
      (flags totals : ℕ) → (lengths_question (flags ∷ totals ∷ []) (flagged_wanted s)).holds ≡ true → (flags ≡ s.rows) × (totals ≡ blocks s)
  flagged-counted flags totals e = let at = length-lent (flags ∷ totals ∷ []) (flagged_wanted s) e in (at 0, at 1)

module _ (s : Shape) (mem : Memory) where
  -- the buffers that go with the rows, and all buffers
  pub rows-sized : (lengths_question (rows_lengths mem) (rows_wanted s)).holds ≡ true → RowsSized s mem
  rows-sized e = let at = length-lent (rows_lengths mem) (rows_wanted s) e in record { counters = at 0; flags = at 1; totals = at 2 }

  pub all-sized : (lengths_question (all_lengths mem) (all_wanted s)).holds ≡ true → Sized s mem
  all-sized e =
      let at = length-lent (all_lengths mem) (all_wanted s) e in
      record { cells = at 0; lines = at 1; rows = record { counters = at 2; flags = at 3; totals = at 4 } }

  -- .. and it holds of each part where all buffers have their lengths
  module _ (z : Sized s mem) where
    pub cells-lent : (lengths_question (length mem.cells ∷ []) (cells_wanted s)).holds ≡ true
    cells-lent = equal-alongside _ _ (λ i. z.cells i ∷ [])

    pub lines-lent : (lengths_question (length mem.lines ∷ []) (lines_wanted s)).holds ≡ true
    lines-lent = equal-alongside _ _ (λ i. z.lines i ∷ [])

    pub array-lent : (lengths_question (length mem.cells ∷ length mem.lines ∷ []) (array_wanted s)).holds ≡ true
    array-lent = equal-alongside _ _ (λ i. z.cells i ∷ z.lines i ∷ [])

    pub rows-lent : (lengths_question (rows_lengths mem) (rows_wanted s)).holds ≡ true
    rows-lent = equal-alongside _ _ (λ i. z.rows.counters i ∷ z.rows.flags i ∷ z.rows.totals i ∷ [])

    pub all-lent : (lengths_question (all_lengths mem) (all_wanted s)).holds ≡ true
    all-lent = equal-alongside _ _ (λ i. z.cells i ∷ z.lines i ∷ z.rows.counters i ∷ z.rows.flags i ∷ z.rows.totals i ∷ [])

-- cells and lines that are written anew leave the others
pub rows-kept : (s : Shape) (mem : Memory) → RowsSized s mem → (cells lines : List ℕ) → RowsSized s (with_array cells lines mem)
rows-kept s mem z cells lines = record { counters = z.counters; flags = z.flags; totals = z.totals }
