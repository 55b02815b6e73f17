-- The numbers of documents 01 and 02 for the questions, case by case.
use Rattle.std.specs.Prelude.{Bool, true, false, List, map, ℕ, ⊤}
use Rattle.std.specs.declared.result.Result.{Result as Answer}
use Rattle.std.specs.declared.result.Result.TheVariants.{Ok, Err}
use Rattle.parity.specs.Questions.{Question, question}
use Rattle.shape.specs.declared.answer.Refusal.{Refusal}
use Rattle.shape.specs.declared.answer.Refusal.TheVariants as refusals

abbrev pub number_of : Refusal → ℕ
number_of refusals.Radix = 1
number_of refusals.Digits = 2
number_of refusals.Errors = 3
number_of refusals.Width = 4
number_of refusals.Rows = 5
number_of refusals.Length = 6
number_of refusals.Place = 7
number_of refusals.Level = 8
number_of refusals.Record = 9
number_of refusals.JobSize = 10
number_of refusals.JobVersion = 11
number_of refusals.JobLength = 12
number_of refusals.JobCells = 13
number_of refusals.JobFields = 14
number_of refusals.Skip = 15
number_of refusals.Line = 16
number_of refusals.Finished = 17
number_of refusals.Features = 18
number_of refusals.Range = 19

-- ---- these only serve the code's own contracts

-- what a question is answered with: nothing where it holds, else its own no
abbrev pub unless_holds : Refusal → Bool → Answer ⊤ Refusal
unless_holds refusal true = Ok tt
unless_holds refusal false = Err refusal

-- questions as the code asks them
abbrev pub asked : List (Refusal × Bool) → List Question
asked questions = map (λ q. question (number_of q.0) q.1) questions
