-- The calls that have no cycle record and no inputs, document 01's, the line call of document 02's Card 4 and the ask of its Card 5, each as one
-- definition, taken or refused; and what programming and commit do to the memory.
use Rattle.std.specs.Prelude.{Bool, false, List, [], ℕ, ◌+◌, ◌*◌, length, take, set}
use Rattle.parity.specs.Lists.{differences}
use Rattle.parity.specs.Shape.{columns}
use Rattle.parity.specs.Codeword.{is_codeword, encode}
use Rattle.parity.specs.Questions.{first_no}
use Rattle.parity.specs.declared.Shape.{Shape}
use Rattle.shape.specs.Answers.{Said, Result, accepted, answering, giving, calling}
use Rattle.array_memory.specs.Geometry.{row_at, with_row}
use Rattle.array_memory.specs.Memory.{Memory, with_cells, with_lines}
use Rattle.array_questions.specs.Questions.{cells_questions, lines_questions, sound_arguments, read_arguments, drift_arguments, line_arguments, ask_arguments}

-- ---- drift

-- that byte changes and nothing else
unfoldable pub drifted : Shape → Memory → ℕ → ℕ → ℕ → Memory
drifted s mem row column level = with_cells (set mem.cells (row * columns s + column) level) mem

unfoldable pub drift_call : Shape → Memory → ℕ → ℕ → ℕ → Result Memory
drift_call s mem row column level =
    calling (cells_questions s (length mem.cells) (drift_arguments s row column level)) [] mem
    (giving (accepted 0) [] (drifted s mem row column level))

-- ---- line

-- that row's line byte changes and nothing else
unfoldable pub line_set : Memory → ℕ → ℕ → Memory
line_set mem row byte = with_lines (set mem.lines row byte) mem

unfoldable pub line_call : Shape → Memory → ℕ → ℕ → Result Memory
line_call s mem row byte =
    calling (lines_questions s (length mem.lines) (line_arguments s row byte)) [] mem (giving (accepted 0) [] (line_set mem row byte))

-- ---- writing a row, which is what programming and commit do to the memory

-- the row becomes these n cells; the other rows stay
unfoldable pub row_written : Shape → Memory → ℕ → List ℕ → Memory
row_written s mem row cells = with_cells (with_row (columns s) mem.cells row cells) mem

-- ---- ask

-- 1 to 5, 6 on the cells, the levels and the buffer, 7 on the row, 8 on the levels; the buffer becomes the finished row, the k levels and then the check
-- cells, and the answer is in how many cells it differs from the row as it stands; the memory stays
unfoldable pub ask_call : Shape → Memory → ℕ → List ℕ → List ℕ → Result Memory
ask_call s mem row given buffer =
    calling (cells_questions s (length mem.cells) (ask_arguments s row given (length buffer))) buffer mem
    (giving (accepted (differences (encode s given) (row_at (columns s) mem.cells row))) (encode s given) mem)

-- ---- sound

-- 1 to 5, 6 on the cells, 7 on the row; yes exactly when the row is sound
unfoldable pub sound_call : Shape → Memory → ℕ → Said Bool
sound_call s mem row =
    answering false (first_no (cells_questions s (length mem.cells) (sound_arguments s row)))
    (is_codeword s (row_at (columns s) mem.cells row))

-- ---- read

-- 1 to 5, 6 on the cells and the k bytes out, 7 on the row; the bytes out become the row's k rule cells
unfoldable pub read_call : Shape → Memory → ℕ → List ℕ → Result Memory
read_call s mem row out =
    calling (cells_questions s (length mem.cells) (read_arguments s row (length out))) out mem
    (giving (accepted 0) (take s.width (row_at (columns s) mem.cells row)) mem)
