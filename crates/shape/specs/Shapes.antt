-- The answer to the questions on a shape, and to those that are asked after them.
use Rattle.std.specs.Prelude.{◌≡◌, List, ℕ}
use Rattle.std.specs.declared.result.Result.{Result as Answer}
use Rattle.parity.specs.Shape.{levels, checks, columns, cell_count}
use Rattle.parity.specs.Questions.{Question, first_no, shape_refusal}
use Rattle.parity.specs.declared.Shape.{Shape}
use Rattle.shape.specs.declared.sizes.Sizes.{Sizes}
use Rattle.shape.specs.declared.answer.Refusal.{Refusal}
use Rattle.shape.specs.Answers.{Said, says, answering}

-- q, r, n and m × n of a shape
abbrev pub sizes_of : Shape → Sizes
sizes_of s = record { levels = levels s; checks = checks s; columns = columns s; cells = cell_count s }

-- what stands for the sizes of a shape that is refused
abbrev pub no_sizes : Sizes
no_sizes = record { levels = 0; checks = 0; columns = 0; cells = 0 }

-- the answer: sizes, or a refusal
abbrev pub checked_says : Answer Sizes Refusal → Said Sizes
checked_says = says no_sizes (λ sizes. sizes)

-- a shape's sizes, where the first no to what is asked has this number, 0 being none
abbrev pub sizes_if : ℕ → Shape → Said Sizes
sizes_if number s = answering no_sizes number (sizes_of s)

-- what the questions on a shape are answered with
abbrev pub shape_says : Shape → Said Sizes
shape_says s = sizes_if (shape_refusal s) s

-- What an act asks of its caller: no question of the call fails, and the sizes that are given are those of its shape.
pub record Passed (questions : List Question) (s : Shape) (given : Sizes) : Type 0 where
  pub none : first_no questions ≡ 0
  pub sizes : given ≡ sizes_of s
