-- Cells that lie row after row, n to a row; and the match bytes of m rows with their lines.
use Rattle.std.specs.Prelude.{List, ◌++◌, ℕ, suc, ◌*◌, get_or, take, drop}
use Rattle.parity.specs.Lists.{tabulate}
use Rattle.parity.specs.Match.{line_match}

-- row i of the cells
unfoldable pub row_at : ℕ → List ℕ → ℕ → List ℕ
row_at n cells i = take n (drop (i * n) cells)

-- the cells with row i written anew
unfoldable pub with_row : ℕ → List ℕ → ℕ → List ℕ → List ℕ
with_row n cells i row = take (i * n) cells ++ row ++ drop (suc i * n) cells

-- the match byte of row i, of an array with q levels, for a vector of n inputs, by its line and its cells
unfoldable pub row_match : ℕ → ℕ → List ℕ → List ℕ → List ℕ → ℕ → ℕ
row_match q n vector cells lines i = line_match q (get_or lines i 0) vector (row_at n cells i)

-- the match bytes of all m rows: one lookup
unfoldable pub match_bytes : ℕ → ℕ → ℕ → List ℕ → List ℕ → List ℕ → List ℕ
match_bytes q m n vector cells lines = tabulate m (row_match q n vector cells lines)
