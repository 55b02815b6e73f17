-- What a call that has the record gives by the number of its first no: a refusal, with all as it was; or that it is done, with the state that
-- it makes. Assumes nothing.
use mathlib.Core.Path.{◌≡◌, sym, ap, ap₂, ◌∙◌}
use mathlib.Core.List.{List}
use Prim.Native.Nat.{ℕ, ◌<◌}
use Rattle.parity.specs.Questions.{Question, first_no}
use Rattle.shape.specs.Answers.{Result, accepted, giving, calling}
use Rattle.shape.specs.Refusals.{number_of}
use Rattle.shape.specs.declared.answer.Refusal.{Refusal}
use Rattle.shape.proofs.Calling.{call-refused, call-done}
use Rattle.array_memory.specs.Memory.{Memory}
use Rattle.cycle.specs.Calls.{State, state_of}
use Rattle.cycle.specs.Methods.{changing, refused_with, done_with}
use Rattle.cycle.specs.declared.Cycle.{Cycle}
use Rattle.cycle.specs.declared.Changed.{Changed}

module _ (questions : List Question) (bytes : List ℕ) (mem : Memory) (cycle : Cycle) (r : Changed) where
  pub gives-refusal :
      (done : Result State) (refusal : Refusal) → (first_no questions ≡ number_of refusal) × (0 < number_of refusal)
      → r ≡ refused_with cycle refusal → calling questions bytes (state_of mem cycle) done ≡ changing r bytes mem
  gives-refusal done refusal fails e =
      call-refused questions bytes (state_of mem cycle) done (number_of refusal) fails ∙ ap (λ r. changing r bytes mem) (sym e)

  -- the bytes, the memory and the record that are left are those that the call makes
  pub gives-done :
      (new left : List ℕ) (made last : Memory) (next cycle' : Cycle) → first_no questions ≡ 0 → r ≡ done_with cycle' → new ≡ left → made ≡ last → next ≡ cycle'
      → calling questions bytes (state_of mem cycle) (giving (accepted 0) new (state_of made next)) ≡ changing r left last
  gives-done new left made last next cycle' none e bytes_same same same-cycle =
      call-done questions bytes (state_of mem cycle) _ none
      ∙ ap₂ (λ new made. giving (accepted 0) new (state_of made next)) bytes_same same
      ∙ ap (λ next. giving (accepted 0) left (state_of last next)) same-cycle
      ∙ ap (λ r. changing r left last) (sym e)

-- what an act gives, with the record that is handed back
pub act-done :
    {call : Result State} {bytes : List ℕ} {last : Memory} {cycle : Cycle} {r : Changed} → call ≡ giving (accepted 0) bytes (state_of last cycle)
    → r ≡ done_with cycle → call ≡ changing r bytes last
act-done {bytes = bytes} {last = last} e made = e ∙ ap (λ r. changing r bytes last) (sym made)
