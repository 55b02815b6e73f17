-- `shape::questions::ask` meets its contract: the question in hand is the first of those that are left. Assumes nothing.
use mathlib.Core.Path.{◌≡◌, sym, ap, ◌∙◌}
use mathlib.Core.Bool.{Bool, true, false, cond}
use mathlib.Core.List.{List}
use Prim.Native.Nat.{ℕ, suc, ◌+◌, ◌<◌}
use native.Mathlib.Numerals.{add-one}
use native.Mathlib.Omega.{arith}
use lib.ListN.{length, get_or, drop}
use lib.Seq.{drop-cons}
use Rattle.std.proofs.lemmas.List.{drop_all}
use Rattle.parity.specs.Questions.{first_no}
use Rattle.shape.specs.declared.answer.Refusal.{Refusal}
use Rattle.shape.specs.Answers.{answering}
use Rattle.shape.specs.Refusals.{number_of, asked}
use Rattle.shape.proofs.Refusals.{yes-told, no-told, handed, refuses}
use Rattle.shape.proofs.questions.ask.Goals as goal

module _ (qs : List (Refusal × Bool)) (i : ℕ) (q : Refusal × Bool) (h : i < length qs) where
  asks : (told : Bool) → (get_or qs i q).1 ≡ told
      → first_no (asked (drop i qs)) ≡ cond told (first_no (asked (drop (i + 1) qs))) (number_of (get_or qs i q).0)
  asks told e =
      ap (λ l. first_no (asked l)) (drop-cons qs i q h)
      ∙ ap (λ t. cond t (first_no (asked (drop (suc i) qs))) (number_of (get_or qs i q).0)) e
      ∙ ap (λ n. cond told (first_no (asked (drop n qs))) (number_of (get_or qs i q).0)) (sym (add-one i))

-- the one in hand fails
pub returns-in_err-unless : goal.returns-in_err-unless
returns-in_err-unless c =
    let turn = c.loop-refusal in
    let wrong = no-told _ _ c.unless.ensures c.in_err-unless.was in
    handed 0 (λ _. 0) c.from_residual.result c.in_err-unless.field-0.0 c.from_residual.ensures.1
    (refuses 0 0 c.in_err-unless.field-0.0
    (turn.invariant ∙ asks c.args.questions.now turn.refusal-index _ (omega arith) false wrong.0 ∙ ap number_of (sym wrong.1)))

-- it holds
pub loop-refusal-preserved : goal.loop-refusal-preserved
loop-refusal-preserved c =
    let turn = c.loop-refusal in
    turn.invariant ∙ asks c.args.questions.now turn.refusal-index _ (omega arith) true (yes-told _ _ c.unless.ensures c.in_ok-unless.was)

-- all have been asked
pub returns : goal.returns
returns c =
    let qs = c.args.questions.now in
    sym (ap (λ n. answering 0 n 0) (c.loop-refusal.invariant ∙ ap (λ l. first_no (asked l)) (drop_all _ qs (omega arith))))
