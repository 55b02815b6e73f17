-- The comparator of an array with q levels, a row's match byte, what its match line makes of it (document 02, Cards 4 and 7), and the input vector of
-- a task lookup.
use Rattle.std.specs.Prelude.{Bool, cond, ◌&&◌, List, ◌++◌, ℕ, eqb, leb, ltb, replicate}
use Rattle.parity.specs.Lists.{alongside}
use Rattle.parity.specs.Shape.{checks}
use Rattle.parity.specs.declared.Shape.{Shape}

-- A cell answers 1 exactly when input ≤ cell and the input is below q: every cell answers 0 to input q, also one with a byte of q or more.
abbrev pub answers : ℕ → ℕ → ℕ → Bool
answers q input cell = leb input cell && ltb input q

-- every cell of the row answers 1 to its input
abbrev pub all_answer : ℕ → List ℕ → List ℕ → Bool
all_answer q vector row = alongside (answers q) vector row

-- a row's match byte for a vector of as many inputs as it has cells
unfoldable pub match_byte : ℕ → List ℕ → List ℕ → ℕ
match_byte q vector row = cond (all_answer q vector row) 1 0

-- What a row's match line gives, where its cells say this: a sound line, whose line byte is 0, gives what they say; a shorted one, 2, gives 1; any
-- other is dead and gives 0.
unfoldable pub line_gives : ℕ → ℕ → ℕ
line_gives line said = cond (eqb line 0) said (cond (eqb line 2) 1 0)

-- so the match byte of a row with this line
unfoldable pub line_match : ℕ → ℕ → List ℕ → List ℕ → ℕ
line_match q line vector row = line_gives line (match_byte q vector row)

-- the vector of a task lookup: the k inputs, and 0 for each check column
unfoldable pub task_vector : Shape → List ℕ → List ℕ
task_vector shape inputs = inputs ++ replicate (checks shape) 0
