-- Document 02, Card 1: what the panel is told of the flagged rows, from the blocks' totals and one block of flags, for any bytes.
use Rattle.std.specs.Prelude.{Bool, cond, List, [], ℕ, suc, ◌+◌, ◌*◌, ◌%◌, ltb, length, get_or}
use Rattle.parity.specs.Lists.{sum_over, first_from}
use Rattle.parity.specs.Questions.{Question, first_no, call_questions, lengths_question}
use Rattle.parity.specs.declared.Shape.{Shape}
use Rattle.shape.specs.Answers.{Said, Found, row, none, row_or_none, answering}
use Rattle.array_memory.specs.Blocks.{block_at, is_flagged, count_flagged}
use Rattle.array_memory.specs.Lengths.{flagged_wanted, flagged_lengths}
use Rattle.array_memory.specs.Memory.{Memory}

-- the grand total, the first flagged row or none, and how many flags were read
pub record Reading : Type 0 where
  pub total : ℕ
  pub first : Found
  pub read : ℕ

abbrev pub reading : ℕ → Found → ℕ → Reading
reading total first read = record { total = total; first = first; read = read }

-- the place of the first byte that isn't 0, the number of bytes where there is none
unfoldable pub first_nonzero : List ℕ → ℕ
first_nonzero bytes = first_from (λ i. is_flagged (get_or bytes i 0)) (length bytes) 0

-- whether there is one
abbrev pub any_nonzero : List ℕ → Bool
any_nonzero bytes = ltb (first_nonzero bytes) (length bytes)

-- the first nonzero flag of block i, none if the block has no such flag
abbrev pub first_in : List ℕ → ℕ → Found
first_in flags i = let block = block_at flags i in cond (any_nonzero block) (row (i * 64 + first_nonzero block)) none

-- how many bytes are read: through the first that isn't 0, or to the end if there is none
abbrev pub read_count : List ℕ → ℕ
read_count bytes = cond (any_nonzero bytes) (suc (first_nonzero bytes)) (length bytes)

-- The total is the sum of the totals. Of the flags the first block whose total isn't 0 is read, and none where every total is 0.
unfoldable pub panel_reading : List ℕ → List ℕ → Reading
panel_reading flags totals =
    let total = sum_over totals (λ t. t) in
    let i = first_nonzero totals in
    cond (any_nonzero totals) (reading total (first_in flags i) (read_count (block_at flags i))) (reading total none 0)

-- 1 to 5, 6 on flags and totals, by their lengths
abbrev pub panel_questions : Shape → List ℕ → List Question
panel_questions s lent = call_questions s [] (lengths_question lent (flagged_wanted s)) []

-- a refusal has no row, and both its numbers are 0
abbrev pub no_reading : Reading
no_reading = reading 0 none 0

unfoldable pub panel_call : Shape → Memory → Said Reading
panel_call s mem = answering no_reading (first_no (panel_questions s (flagged_lengths mem))) (panel_reading mem.flags mem.totals)

-- ---- a full reading of the flags

-- the first flagged row
unfoldable pub first_flagged : List ℕ → Found
first_flagged flags = row_or_none (length flags) (first_nonzero flags)

-- how many flags are read to find it: from the start of its block through its own, and none where no row is flagged
abbrev pub read_through : Found → ℕ
read_through (row i) = suc (i % 64)
read_through none = 0

-- how many rows are flagged, the first of them, and the flags read to find it
unfoldable pub full_reading : List ℕ → Reading
full_reading flags = reading (count_flagged flags) (first_flagged flags) (read_through (first_flagged flags))
