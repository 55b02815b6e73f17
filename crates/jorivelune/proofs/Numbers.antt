-- A call says what its number and its value tell, since no question has the number 0; one on a record in words too. Assumes nothing.
use mathlib.Core.Path.{◌≡◌, refl, sym, ap, subst, ◌∙◌}
use mathlib.Core.Bool.{false}
use mathlib.Core.List.{List}
use Prim.Native.Nat.{ℕ, zero, suc}
use native.Mathlib.Omega.{arith}
use lib.Dec.{eqb}
use borrow.Author.Tests.{ne_eqb}
use Rattle.std.specs.Prelude.{⊤}
use Rattle.std.specs.declared.result.Result.{Result as Answer}
use Rattle.std.specs.declared.result.Result.TheVariants.{Ok, Err}
use Rattle.parity.specs.Questions.{Question, first_no, if_taken}
use Rattle.shape.specs.Refusals.{number_of}
use Rattle.shape.specs.Answers.{Said, Result, accepted, refused, answering, outcome_says, giving, calling}
use Rattle.shape.specs.declared.answer.Refusal.{Refusal}
use Rattle.shape.proofs.Refusals.{numbered-refusal}
use Rattle.array_memory.specs.Memory.{Memory}
use Rattle.cycle.specs.Calls.{State, state_of}
use Rattle.cycle.specs.Methods.{changing}
use Rattle.cycle.specs.declared.Changed.{Changed}
use Rattle.cycle.specs.declared.Cycle.{Cycle}
use Rattle.record_words.specs.Words.{cycle_of, words_after, stored_of, storing, on_words}
use Rattle.jorivelune.specs.Numbers.{telling}

-- ---- 0 is the number of a call that is taken, and of no other

abbrev pub Told : {A : Type 0} → Said A → Type 0
Told said = said.taken ≡ eqb said.number 0

positive : (number : ℕ) → false ≡ eqb (suc number) 0
positive number = sym (ne_eqb (suc number) 0 (λ e. omega arith))

pub answering-told : {A : Type 0} (nothing : A) (number : ℕ) (value : A) → Told (answering nothing number value)
answering-told nothing zero value = refl
answering-told nothing (suc number) value = positive number

module _ {S : Type 0} (questions : List Question) (bytes : List ℕ) (state : S) where
  pub done-told : (done : Result S) → Told done.said → Told (calling questions bytes state done).said
  unfolding calling
  done-told done t = go (first_no questions)
    where
      go : (number : ℕ) → Told (if_taken number done (giving (refused 0 number) bytes state)).said
      go zero = t
      go (suc number) = positive number

  pub calling-told : (value : ℕ) (new : List ℕ) (next : S) → Told (calling questions bytes state (giving (accepted value) new next)).said
  calling-told value new next = done-told (giving (accepted value) new next) refl

-- ---- so what a call says is what its number and its value tell

pub tells : {A : Type 0} {call said : Said A} → Told call → call ≡ said → call ≡ telling said.number said.value
tells {said = said} t e = let same : Told said = subst Told e t in e ∙ (λ i. record { taken = same i; number = said.number; value = said.value })

module _ {S : Type 0} {call : Result S} {bytes : List ℕ} {state : S} (t : Told call.said) where
  -- with the bytes and the state
  pub gives : {said : Said ℕ} → call ≡ giving said bytes state → call ≡ giving (telling said.number said.value) bytes state
  gives e = e ∙ ap (λ said. giving said bytes state) (tells (subst Told (ap (λ r. r.said) e) t) refl)

-- ---- of a call that answers nothing, by its outcome

outcome-told : (outcome : Answer ⊤ Refusal) → outcome_says outcome ≡ telling (outcome_says outcome).number 0
outcome-told (Ok _) = refl
outcome-told (Err refusal) =
    let positive = numbered-refusal refusal in
    let other = ne_eqb (number_of refusal) 0 (λ e. omega arith) in
    λ i. record { taken = sym other i; number = number_of refusal; value = 0 }

-- The record is read from the words, the method on it returns, and `store` leaves what the return says.
pub stores :
    (call : State → Result State) (mem : Memory) (given : List ℕ) (made : Changed) {read : Cycle} {after : Memory} {bytes left : List ℕ} {r : ℕ}
    → read ≡ cycle_of given → call (state_of mem read) ≡ changing made bytes after
    → (r ≡ (outcome_says made.outcome).number) × (left ≡ words_after (outcome_says made.outcome) made.cycle given)
    → on_words call mem given ≡ giving (telling r 0) bytes (stored_of after left)
stores call mem given made {after = after} {bytes = bytes} {left = left} same e kept =
    ap (λ r. storing r given) (ap (λ cycle. call (state_of mem cycle)) (sym same) ∙ e)
    ∙ ap (λ w. giving (outcome_says made.outcome) bytes (stored_of after w)) (sym kept.1)
    ∙ ap (λ said. giving said bytes (stored_of after left)) (outcome-told made.outcome ∙ ap (λ n. telling n 0) (sym kept.0))
