-- What the calls answer: for each case of each answer, document 01's number and value; and all that a call gives, taken or refused.
use Rattle.std.specs.Prelude.{Bool, true, false, cond, List, ℕ, ltb, ⊤}
use Rattle.parity.specs.Questions.{Question, first_no, if_taken}
use Rattle.std.specs.declared.option.Option.{Option}
use Rattle.std.specs.declared.option.Option.TheVariants as options
use Rattle.std.specs.declared.result.Result.{Result as Answer}
use Rattle.std.specs.declared.result.Result.TheVariants as answers
use Rattle.shape.specs.declared.answer.Refusal.{Refusal}
use Rattle.shape.specs.Refusals.{number_of}

-- Whether a call is taken; the number of the first no, 0 where there is none; and the value that it answers.
pub record Said (A : Type 0) : Type 0 where
  pub taken : Bool
  pub number : ℕ
  pub value : A

module _ {A : Type 0} where
  abbrev pub accepted : A → Said A
  accepted value = record { taken = true; number = 0; value = value }

  -- a refusal has no value: what stands for one is given first
  abbrev pub refused : A → ℕ → Said A
  refused nothing number = record { taken = false; number = number; value = nothing }

  -- what is said where the first no has this number, 0 being none
  abbrev pub answering : A → ℕ → A → Said A
  answering nothing number value = if_taken number (accepted value) (refused nothing number)

-- ---- the answers, case by case

-- a refusal has no value: what stands for one is given first
module _ {A V : Type 0} (nothing : V) (value : A → V) where
  abbrev pub says : Answer A Refusal → Said V
  says (answers.Ok answer) = accepted (value answer)
  says (answers.Err refusal) = refused nothing (number_of refusal)

-- a count; every count of a refusal is 0
abbrev pub answer_says : Answer ℕ Refusal → Said ℕ
answer_says = says 0 (λ count. count)

-- no count, which is 0
abbrev pub outcome_says : Answer ⊤ Refusal → Said ℕ
outcome_says = says 0 (λ _. 0)

-- yes or no; a refusal says neither, and no stands for it
abbrev pub verdict_says : Answer Bool Refusal → Said Bool
verdict_says = says false (λ verdict. verdict)

-- a row's number, or none
pub data Found : Type 0 where
  row : ℕ → Found
  none : Found

-- a number below m is a row's, any other is none
abbrev pub row_or_none : ℕ → ℕ → Found
row_or_none m i = cond (ltb i m) (row i) none

abbrev pub found_of : Option ℕ → Found
found_of (options.Some i) = row i
found_of options.None = none

abbrev pub first_says : Answer (Option ℕ) Refusal → Said Found
first_says = says none found_of

-- ---- all that a call gives

-- What it says; the bytes of the buffer that comes with it, none where none comes; and the state that it leaves.
pub record Result (S : Type 0) : Type 0 where
  pub said : Said ℕ
  pub bytes : List ℕ
  pub state : S

module _ {S : Type 0} where
  abbrev pub giving : Said ℕ → List ℕ → S → Result S
  giving said bytes state = record { said = said; bytes = bytes; state = state }

  -- A call of these questions, on these bytes and this state: where none fails, what it gives then; else the number of the first no, with
  -- bytes and state as they were.
  unfoldable pub calling : List Question → List ℕ → S → Result S → Result S
  calling questions bytes state done = if_taken (first_no questions) done (giving (refused 0 (first_no questions)) bytes state)
