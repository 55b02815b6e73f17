-- Blocks of 64 rows, the last of which may be short, and the number of flagged rows of each.
use Rattle.std.specs.Prelude.{Bool, not, List, ℕ, ◌+◌, ◌*◌, ◌/◌, min, eqb, length, take, drop}
use Rattle.parity.specs.Lists.{tabulate, keep}
use Rattle.parity.specs.declared.Shape.{Shape}

-- how many blocks m rows have: ⌈m / 64⌉
unfoldable pub blocks_of : ℕ → ℕ
blocks_of m = (m + 63) / 64

abbrev pub blocks : Shape → ℕ
blocks s = blocks_of s.rows

-- the end of the block that starts at a row: a block further on, or the end of the rows
abbrev pub block_end : ℕ → ℕ → ℕ
block_end start m = min (start + 64) m

-- the flags of block i: 64 of them, fewer where the rows end
unfoldable pub block_at : List ℕ → ℕ → List ℕ
block_at flags i = take 64 (drop (i * 64) flags)

-- a row is flagged where its flag isn't 0
abbrev pub is_flagged : ℕ → Bool
is_flagged flag = not (eqb flag 0)

-- how many of the rows with these flags are flagged
unfoldable pub count_flagged : List ℕ → ℕ
count_flagged flags = length (keep is_flagged flags)

-- each block's count of flagged rows
unfoldable pub block_totals : List ℕ → List ℕ
block_totals flags = tabulate (blocks_of (length flags)) (λ i. count_flagged (block_at flags i))
