-- A call by the number of its first no: where there is one, that refusal with all as it was; where there is none, what the call does.
-- Assumes nothing.
use mathlib.Core.Path.{◌≡◌, refl, sym, ap, ◌∙◌}
use mathlib.Core.Bool.{true, true≢false}
use mathlib.Core.List.{List}
use Prim.Native.Nat.{ℕ, zero, suc, ◌<◌}
use native.Mathlib.Omega.{arith}
use Rattle.std.specs.Prelude.{IsErrAnd}
use Rattle.std.specs.declared.result.Result.{Result as Answer}
use Rattle.parity.specs.Questions.{Question, first_no, if_taken}
use Rattle.shape.specs.declared.answer.Refusal.{Refusal}
use Rattle.shape.specs.Refusals.{number_of}
use Rattle.shape.specs.Answers.{Result, refused, giving, calling, says}
use Rattle.shape.proofs.Refusals.{handed}

-- of two things the one for a no
pub if_no : {A : Type 0} (n : ℕ) → 0 < n → (new old : A) → if_taken n new old ≡ old
if_no zero h new old = absurd (omega arith)
if_no (suc n) h new old = refl

-- what holds of both holds of either
pub if-either : {A : Type 0} (P : A → Type 0) (n : ℕ) (new old : A) → P new → P old → P (if_taken n new old)
if-either P zero new old p q = p
if-either P (suc n) new old p q = q

module _ {S : Type 0} (questions : List Question) (bytes : List ℕ) (state : S) (done : Result S) where
  pub call-refused : (n : ℕ) → (first_no questions ≡ n) × (0 < n) → calling questions bytes state done ≡ giving (refused 0 n) bytes state
  unfolding calling
  call-refused n fails =
      ap (λ n. if_taken n done (giving (refused 0 n) bytes state)) fails.0 ∙ if_no n fails.1 done (giving (refused 0 n) bytes state)

  -- .. where the refusal is handed on
  pub call-handed :
      {A : Type 0} (value : A → ℕ) (answer : Answer A Refusal) (told : Refusal) → (first_no questions ≡ number_of told) × (0 < number_of told)
      → IsErrAnd answer (λ y. y ≡ told) → calling questions bytes state done ≡ giving (says 0 value answer) bytes state
  call-handed value answer told found on =
      call-refused (number_of told) found ∙ sym (ap (λ said. giving said bytes state) (handed 0 value answer told on refl))

  pub call-done : first_no questions ≡ 0 → calling questions bytes state done ≡ done
  unfolding calling
  call-done none = ap (λ n. if_taken n done (giving (refused 0 n) bytes state)) none

  -- a call that says that it is taken has no no
  pub call-taken : (calling questions bytes state done).said.taken ≡ true → first_no questions ≡ 0
  unfolding calling
  call-taken = go (first_no questions)
    where
      go : (n : ℕ) → (if_taken n done (giving (refused 0 n) bytes state)).said.taken ≡ true → n ≡ 0
      go zero e = refl
      go (suc n) e = absurd (true≢false (sym e))

  -- what holds of the state that a call finds and of the one that it makes holds of the one that it leaves, taken or refused
  pub call-keeps : (P : S → Type 0) → P state → P done.state → P (calling questions bytes state done).state
  unfolding calling
  call-keeps P old new = go (first_no questions)
    where
      go : (n : ℕ) → P (if_taken n done (giving (refused 0 n) bytes state)).state
      go zero = new
      go (suc n) = old
