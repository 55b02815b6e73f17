-- Only serves the code's own contracts: match bytes by comparisons of bytes alone, which is what they are where every input is below q.
use Rattle.std.specs.Prelude.{Bool, cond, List, ℕ, leb}
use Rattle.parity.specs.Lists.{alongside}
use Rattle.parity.specs.Match.{line_gives}

-- each input is at most its cell
abbrev pub all_reached : List ℕ → List ℕ → Bool
all_reached inputs cells = alongside leb inputs cells

-- the match byte of such cells
unfoldable pub compared_byte : List ℕ → List ℕ → ℕ
compared_byte inputs cells = cond (all_reached inputs cells) 1 0

-- what a row's line gives of it; where not every input is below q, no row's cells say yes
abbrev pub line_byte : ℕ → Bool → List ℕ → List ℕ → ℕ
line_byte line below inputs cells = line_gives line (cond below (compared_byte inputs cells) 0)

-- what a row's line gives where one cell alone is fed, with an input below q
abbrev pub cell_match : ℕ → ℕ → ℕ → ℕ
cell_match line input cell = line_gives line (cond (leb input cell) 1 0)
