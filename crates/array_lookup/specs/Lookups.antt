-- Document 01's task lookup and first match, by cells and lines: the questions, in their order, and each call as one definition, taken or refused.
use Rattle.std.specs.Prelude.{List, [], ◌∷◌, ℕ, eqb, length}
use Rattle.parity.specs.Lists.{sum_over, first_from}
use Rattle.parity.specs.Match.{task_vector}
use Rattle.parity.specs.Shape.{levels, columns}
use Rattle.parity.specs.Questions.{Question, first_no, call_questions, lengths_question, inputs_question}
use Rattle.parity.specs.declared.Shape.{Shape}
use Rattle.shape.specs.Answers.{Said, Found, none, row_or_none, Result, accepted, answering, giving, calling}
use Rattle.array_memory.specs.Geometry.{row_match, match_bytes}
use Rattle.array_memory.specs.Lengths.{array_wanted}
use Rattle.array_memory.specs.Memory.{Memory}

-- 1 to 5, 6 on cells and lines, by their numbers, and what a lookup asks of its arguments
abbrev pub array_questions : Shape → ℕ → ℕ → List Question → List Question
array_questions s cells lines arguments = call_questions s [] (lengths_question (cells ∷ lines ∷ []) (array_wanted s)) arguments

-- ---- task lookup

-- 6 on the k inputs and the m match bytes, by their number, 8 on each input
abbrev pub lookup_arguments : Shape → List ℕ → ℕ → List Question
lookup_arguments s inputs matches = lengths_question (length inputs ∷ matches ∷ []) (s.width ∷ s.rows ∷ []) ∷ inputs_question (levels s) inputs ∷ []

-- the match bytes of all rows, the check columns being fed 0
unfoldable pub task_matches : Shape → Memory → List ℕ → List ℕ
task_matches s mem inputs = match_bytes (levels s) s.rows (columns s) (task_vector s inputs) mem.cells mem.lines

-- the number of matches
unfoldable pub task_count : Shape → Memory → List ℕ → ℕ
task_count s mem inputs = sum_over (task_matches s mem inputs) (λ byte. byte)

unfoldable pub lookup_call : Shape → Memory → List ℕ → List ℕ → Result Memory
lookup_call s mem inputs matches =
    calling (array_questions s (length mem.cells) (length mem.lines) (lookup_arguments s inputs (length matches))) matches mem
    (giving (accepted (task_count s mem inputs)) (task_matches s mem inputs) mem)

-- ---- first match

-- 6 on the k inputs, 8 on each
abbrev pub first_arguments : Shape → List ℕ → List Question
first_arguments s inputs = lengths_question (length inputs ∷ []) (s.width ∷ []) ∷ inputs_question (levels s) inputs ∷ []

-- the first of m rows whose match byte is 1
abbrev pub first_row : ℕ → (ℕ → ℕ) → Found
first_row m byte = row_or_none m (first_from (λ i. eqb (byte i) 1) m 0)

-- the first row that a task lookup of the inputs matches, or none
unfoldable pub first_call : Shape → Memory → List ℕ → Said Found
first_call s mem inputs =
    answering none (first_no (array_questions s (length mem.cells) (length mem.lines) (first_arguments s inputs)))
    (first_row s.rows (row_match (levels s) (columns s) (task_vector s inputs) mem.cells mem.lines))
