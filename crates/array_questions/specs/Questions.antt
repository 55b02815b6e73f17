-- The questions of the calls on the cells, on the lines and on the whole memory, in document 01's order, but for a step's 9: what each asks of its
-- arguments, 6 on the buffers among them first, and all that it asks, by the lengths of what it is lent.
use Rattle.std.specs.Prelude.{List, [], ◌∷◌, ℕ, length}
use Rattle.parity.specs.Shape.{levels, columns}
use Rattle.parity.specs.Questions.{Question, call_questions, skip_question, lengths_question, place_question, levels_question, line_question, sound_question}
use Rattle.parity.specs.declared.Shape.{Shape}
use Rattle.array_memory.specs.Lengths.{cells_wanted, lines_wanted, rows_wanted, all_wanted}

-- 1 to 5, 6 on the cells, and what a call on the cells asks of its arguments
abbrev pub cells_questions : Shape → ℕ → List Question → List Question
cells_questions s cells arguments = call_questions s [] (lengths_question (cells ∷ []) (cells_wanted s)) arguments

-- the same with 6 on the lines
abbrev pub lines_questions : Shape → ℕ → List Question → List Question
lines_questions s lines arguments = call_questions s [] (lengths_question (lines ∷ []) (lines_wanted s)) arguments

-- ---- sound and read: 6 on the k bytes out, by their number, and 7 on the row

abbrev pub sound_arguments : Shape → ℕ → List Question
sound_arguments s row = place_question row s.rows ∷ []

abbrev pub read_arguments : Shape → ℕ → ℕ → List Question
read_arguments s row out = lengths_question (out ∷ []) (s.width ∷ []) ∷ place_question row s.rows ∷ []

-- ---- drift: 7 on the row and the column, 8 on the level

abbrev pub drift_arguments : Shape → ℕ → ℕ → ℕ → List Question
drift_arguments s row column level = place_question row s.rows ∷ place_question column (columns s) ∷ levels_question (levels s) (level ∷ []) ∷ []

-- ---- line: 7 on the row, 16 on the byte

abbrev pub line_arguments : Shape → ℕ → ℕ → List Question
line_arguments s row byte = place_question row s.rows ∷ line_question byte ∷ []

-- ---- program: 6 on the k levels, 7 on the row, 8 on the levels; ask: 6 on the n bytes for the finished row too

abbrev pub program_arguments : Shape → ℕ → List ℕ → List Question
program_arguments s row given =
    lengths_question (length given ∷ []) (s.width ∷ []) ∷ place_question row s.rows ∷ levels_question (levels s) given ∷ []

abbrev pub ask_arguments : Shape → ℕ → List ℕ → ℕ → List Question
ask_arguments s row given buffer =
    lengths_question (length given ∷ buffer ∷ []) (s.width ∷ columns s ∷ []) ∷ place_question row s.rows ∷ levels_question (levels s) given ∷ []

-- ---- commit: 6 on the n cells of the finished row, 7 on the row, 8 on the cells to be written, and then 17 on them

abbrev pub commit_arguments : Shape → ℕ → List ℕ → List Question
commit_arguments s row finished =
    lengths_question (length finished ∷ []) (columns s ∷ [])
    ∷ place_question row s.rows
    ∷ levels_question (levels s) finished
    ∷ sound_question s finished
    ∷ []

-- ---- clear: 6 on the whole memory, by its lengths

abbrev pub clear_questions : Shape → List ℕ → List Question
clear_questions s lent = call_questions s [] (lengths_question lent (all_wanted s)) []

-- ---- start: 15 on the number of digits to skip, and then 6 on counters, flags and totals, by their lengths

abbrev pub start_arguments : Shape → ℕ → List Question
start_arguments s z = skip_question s z ∷ []

abbrev pub start_questions : Shape → ℕ → List ℕ → List Question
start_questions s z lent = call_questions s (start_arguments s z) (lengths_question lent (rows_wanted s)) []

-- ---- step: 6 on the buffer for match bytes, by its length; after further numbers and 6 on the whole memory

abbrev pub step_arguments : Shape → ℕ → List Question
step_arguments s matches = lengths_question (matches ∷ []) (s.rows ∷ []) ∷ []

abbrev pub lent_questions : Shape → List Question → List ℕ → ℕ → List Question
lent_questions s numbers lent matches = call_questions s numbers (lengths_question lent (all_wanted s)) (step_arguments s matches)
