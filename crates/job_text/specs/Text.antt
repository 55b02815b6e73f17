-- The text that a job prints, as ASCII bytes.
use Rattle.std.specs.Prelude.{cond, List, [], ◌∷◌, ◌++◌, ℕ, zero, suc, ◌+◌, ◌/◌, ◌%◌, eqb, ltb, get_or}
use Rattle.parity.specs.Lists.{joined}

-- a number in base ten, of at most as many digits as the first argument says, without zeros in front
abbrev pub decimal_in : ℕ → ℕ → List ℕ
decimal_in zero n = []
decimal_in (suc places) n = cond (ltb n 10) ((48 + n) ∷ []) (decimal_in places (n / 10) ++ ((48 + n % 10) ∷ []))

unfoldable pub decimal : ℕ → List ℕ
decimal n = decimal_in 20 n

-- "levels "
abbrev pub levels_word : List ℕ
levels_word = 108 ∷ 101 ∷ 118 ∷ 101 ∷ 108 ∷ 115 ∷ 32 ∷ []

-- " columns "
abbrev pub columns_word : List ℕ
columns_word = 32 ∷ 99 ∷ 111 ∷ 108 ∷ 117 ∷ 109 ∷ 110 ∷ 115 ∷ 32 ∷ []

-- " lookups "
abbrev pub lookups_word : List ℕ
lookups_word = 32 ∷ 108 ∷ 111 ∷ 111 ∷ 107 ∷ 117 ∷ 112 ∷ 115 ∷ 32 ∷ []

-- "row "
abbrev pub row_word : List ℕ
row_word = 114 ∷ 111 ∷ 119 ∷ 32 ∷ []

-- " ok\n"
abbrev pub ok_word : List ℕ
ok_word = 32 ∷ 111 ∷ 107 ∷ 10 ∷ []

-- " flagged\n"
abbrev pub flagged_word : List ℕ
flagged_word = 32 ∷ 102 ∷ 108 ∷ 97 ∷ 103 ∷ 103 ∷ 101 ∷ 100 ∷ 10 ∷ []

-- "refused "
abbrev pub refused_word : List ℕ
refused_word = 114 ∷ 101 ∷ 102 ∷ 117 ∷ 115 ∷ 101 ∷ 100 ∷ 32 ∷ []

-- "\n"
abbrev pub line_end : List ℕ
line_end = 10 ∷ []

-- the line of a refusal
unfoldable pub refused_text : ℕ → List ℕ
refused_text number = refused_word ++ decimal number ++ line_end

-- the first line: q, n and the record's count
unfoldable pub head_text : ℕ → ℕ → ℕ → List ℕ
head_text levels columns count =
    levels_word ++ decimal levels ++ columns_word ++ decimal columns ++ lookups_word ++ decimal count ++ line_end

-- the line of a row: its number, and ok for flag 0, else flagged
unfoldable pub row_text : ℕ → ℕ → List ℕ
row_text i flag = row_word ++ decimal i ++ cond (eqb flag 0) ok_word flagged_word

-- one line for each row
unfoldable pub rows_text : ℕ → List ℕ → List ℕ
rows_text m flags = joined m (λ i. row_text i (get_or flags i 0))
