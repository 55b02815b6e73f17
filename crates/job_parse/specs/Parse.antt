-- Document 01, "The job program": the fields of a job, and its questions.
use Rattle.std.specs.Prelude.{◌&&◌, List, [], ◌∷◌, ◌++◌, ℕ, ◌+◌, ◌-◌, ◌*◌, eqb, leb, length, get_or, take, drop}
use Rattle.parity.specs.Lists.{joined}
use Rattle.parity.specs.Shape.{levels, cell_count}
use Rattle.parity.specs.Questions.{Question, question, first_no, shape_questions, levels_question}
use Rattle.parity.specs.declared.Shape.{Shape}
use Rattle.array_questions.specs.Questions.{drift_arguments}

-- ---- fields

abbrev pub byte_at : List ℕ → ℕ → ℕ
byte_at input i = get_or input i 0

-- two and four bytes, big-endian
abbrev pub two_at : List ℕ → ℕ → ℕ
two_at input i = byte_at input i * 256 + byte_at input (i + 1)

abbrev pub four_at : List ℕ → ℕ → ℕ
four_at input i = two_at input i * 65536 + two_at input (i + 2)

-- bytes 5 to 10: ρ, b, τ, k, and m in two bytes
abbrev pub job_shape : List ℕ → Shape
job_shape input =
    record { radix = byte_at input 5; digits = byte_at input 6; errors = byte_at input 7; width = byte_at input 8; rows = two_at input 9 }

-- m × k, the levels from byte 11 on
abbrev pub level_count : List ℕ → ℕ
level_count input = (job_shape input).rows * (job_shape input).width

-- the levels of all rows, and those of row i
abbrev pub job_levels : List ℕ → List ℕ
job_levels input = take (level_count input) (drop 11 input)

abbrev pub row_levels : List ℕ → ℕ → List ℕ
row_levels input i = take (job_shape input).width (drop (11 + i * (job_shape input).width) input)

-- the drift count d, after the levels
abbrev pub drift_count : List ℕ → ℕ
drift_count input = two_at input (11 + level_count input)

-- drift i: its row, column and level
abbrev pub drift_start : List ℕ → ℕ → ℕ
drift_start input i = 13 + level_count input + 4 * i

abbrev pub drift_row : List ℕ → ℕ → ℕ
drift_row input i = two_at input (drift_start input i)

abbrev pub drift_column : List ℕ → ℕ → ℕ
drift_column input i = byte_at input (drift_start input i + 2)

abbrev pub drift_level : List ℕ → ℕ → ℕ
drift_level input i = byte_at input (drift_start input i + 3)

-- ---- questions

-- the most bytes that a job has
abbrev pub most_bytes : ℕ
most_bytes = 32768

-- the most cells that its array has
abbrev pub most_cells : ℕ
most_cells = 16384

-- 10: at most 32,768 bytes
abbrev pub size_question : List ℕ → Question
size_question input = question 10 (leb (length input) most_bytes)

-- 11: a first byte, equal to 1
abbrev pub version_question : List ℕ → Question
version_question input = question 11 (leb 1 (length input) && eqb (byte_at input 0) 1)

-- 12: five bytes or more, a length equal to what follows, and at least 8
abbrev pub frame_question : List ℕ → Question
frame_question input = question 12 (leb 5 (length input) && eqb (four_at input 1) (length input - 5) && leb 8 (length input - 5))

abbrev pub frame_questions : List ℕ → List Question
frame_questions input = size_question input ∷ version_question input ∷ frame_question input ∷ []

-- 13: m × n at most 16,384
abbrev pub cells_question : List ℕ → Question
cells_question input = question 13 (leb (cell_count (job_shape input)) most_cells)

-- 14: levels and drift count present, and exactly 8 + m × k + 4 × d bytes after the length
abbrev pub contents_question : List ℕ → Question
contents_question input =
    question 14 (leb (8 + level_count input) (length input - 5) && eqb (length input - 5) (8 + level_count input + 4 * drift_count input))

-- 13, 14, and 8 on all levels
abbrev pub contents_questions : List ℕ → List Question
contents_questions input = cells_question input ∷ contents_question input ∷ levels_question (levels (job_shape input)) (job_levels input) ∷ []

-- 7 then 8 for each drift in turn
unfoldable pub drift_questions : List ℕ → List Question
drift_questions input =
    joined (drift_count input) (λ i. drift_arguments (job_shape input) (drift_row input i) (drift_column input i) (drift_level input i))

-- all questions of a job, in their order
unfoldable pub job_questions : List ℕ → List Question
job_questions input = frame_questions input ++ shape_questions (job_shape input) ++ contents_questions input ++ drift_questions input

unfoldable pub job_refusal : List ℕ → ℕ
job_refusal input = first_no (job_questions input)
