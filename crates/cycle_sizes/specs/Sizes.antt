-- What a caller has to know before he lends anything: the sizes of a shape, its blocks of rows, and the steps of a cycle.
use Rattle.std.specs.Prelude.{List, [], ◌∷◌, ◌++◌, ℕ}
use Rattle.std.specs.declared.result.Result.{Result as Answer}
use Rattle.parity.specs.Matrix.{cycle_steps}
use Rattle.parity.specs.Questions.{Question, first_no, shape_questions, skip_question}
use Rattle.parity.specs.declared.Shape.{Shape}
use Rattle.shape.specs.Answers.{Said, says, answering}
use Rattle.shape.specs.Shapes.{sizes_of, no_sizes}
use Rattle.shape.specs.declared.answer.Refusal.{Refusal}
use Rattle.array_memory.specs.Blocks.{blocks}
use Rattle.cycle_sizes.specs.declared.CycleSizes.{CycleSizes}

-- q, r, n, m × n, ⌈m / 64⌉, and the steps of a cycle that skips the z lowest digits
abbrev pub cycle_sizes : ℕ → Shape → CycleSizes
cycle_sizes z s = record { sizes = sizes_of s; blocks = blocks s; steps = cycle_steps z s }

-- every number of a refusal is 0
abbrev pub no_cycle_sizes : CycleSizes
no_cycle_sizes = record { sizes = no_sizes; blocks = 0; steps = 0 }

-- 1 to 5, then 15: there is no cycle that skips b digits or more
abbrev pub sizes_questions : Shape → ℕ → List Question
sizes_questions s z = shape_questions s ++ (skip_question s z ∷ [])

unfoldable pub sizes_call : Shape → ℕ → Said CycleSizes
sizes_call s z = answering no_cycle_sizes (first_no (sizes_questions s z)) (cycle_sizes z s)

-- what the answer in the code says
abbrev pub sized_says : Answer CycleSizes Refusal → Said CycleSizes
sized_says = says no_cycle_sizes (λ sizes. sizes)
