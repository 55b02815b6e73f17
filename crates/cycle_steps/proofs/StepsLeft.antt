-- What many steps leave: the state of that many single ones, and the record of as many as are made. Assumes nothing.
use mathlib.Core.Path.{◌≡◌, refl, sym, ap, ◌∙◌}
use mathlib.Core.Bool.{Bool, true, false, cond, ◌&&◌, and-false}
use mathlib.Core.List.{List, [], ◌∷◌}
use Prim.Native.Nat.{ℕ, zero, suc, ◌+◌, ◌≤◌, ◌<◌, min}
use native.Mathlib.Nat.{zero-lt-suc, min-eq_left, min-eq_right}
use native.Mathlib.Omega.{arith}
use lib.Dec.{eqb, ltb, lit<}
use lib.ListN.{length, replicate}
use borrow.Author.Tests.{ltb-true, ltb-false}
use Rattle.parity.specs.Matrix.{cycle_steps}
use Rattle.parity.specs.Questions.{first_no, Taken}
use Rattle.parity.specs.declared.Shape.{Shape}
use Rattle.parity.proofs.Taken.{first-yes}
use Rattle.shape.specs.Answers.{Said, accepted, giving}
use Rattle.shape.proofs.Calling.{call-refused, call-done, call-taken}
use Rattle.shape.proofs.Refusals.{first-none}
use Rattle.array_memory.specs.Lengths.{all_lengths}
use Rattle.array_questions.specs.Questions.{lent_questions}
use Rattle.cycle.specs.Record.{cycle_at, is_next, cycle_question}
use Rattle.cycle.specs.Calls.{State, step_matches, stepped, step_questions, step_call}
use Rattle.cycle.proofs.CycleRecord.{next-record, next-complete}
use Rattle.cycle.proofs.Located.{lent-taken, lent-sized, lent-matches}
use Rattle.cycle.proofs.Steps.{step-state}
use Rattle.cycle_steps.specs.Claims.{StepsClaim, CountClaim}
use Rattle.cycle_steps.specs.Steps.{after_steps, stepping, steps_call}
use Rattle.cycle_steps.proofs.Stepping.{At, phase, step-made, stepped-at, matches-sized, stepping-next, stepping-closed}

module _ (z : ℕ) (s : Shape) (t : Taken s) (some : z < s.digits) where
  -- a single step on a complete record leaves the state
  over : (c : ℕ) (st : State) → At z s c st → cycle_steps z s ≤ c → (given : List ℕ) → (step_call s st given).state ≡ st
  over c st at h given =
      step-state s st at.sized t given
      ∙ ap (λ b. cond b (stepped s st) st)
      (ap (λ next. eqb (length given) s.rows && next) (ap (is_next s) at.cycle ∙ next-complete z s t c h) ∙ and-false (eqb (length given) s.rows))

  -- from a state of a cycle: many steps, and that many single ones
  state-left :
      (given : List ℕ) → length given ≡ s.rows → (n c : ℕ) (st : State) → At z s c st → (said : Said ℕ) (buffer : List ℕ) → length buffer ≡ s.rows
      → (stepping s n (giving said buffer st)).state ≡ after_steps s st (replicate n given)
  state-left given l zero c st at said buffer e = refl
  state-left given l (suc n) c st at said buffer e =
      go (ltb c (cycle_steps z s)) refl
      (state-left given l n (suc c) (stepped s st) (stepped-at z s t some c st at) (accepted 0) (step_matches s st) (matches-sized z s t some c st at))
      (state-left given l n c st at said buffer e)
    where
      go :
          (b : Bool) → ltb c (cycle_steps z s) ≡ b
          → (stepping s n (giving (accepted 0) (step_matches s st) (stepped s st))).state ≡ after_steps s (stepped s st) (replicate n given)
          → (stepping s n (giving said buffer st)).state ≡ after_steps s st (replicate n given)
          → (stepping s (suc n) (giving said buffer st)).state ≡ after_steps s st (replicate (suc n) given)
      go true q on same =
          let more = ltb-true c (cycle_steps z s) q in
          ap (λ r. r.state) (stepping-next z s t some c st at more n said buffer e)
          ∙ on
          ∙ ap (λ r. after_steps s r.state (replicate n given)) (sym (step-made z s t some c st at more given l))
      go false q on same =
          let end = ltb-false c (cycle_steps z s) q in
          ap (λ r. r.state) (stepping-closed s (suc n) (giving said buffer st) (phase z s t some c st at ∙ q))
          ∙ ap (λ r. r.state) (sym (stepping-closed s n (giving said buffer st) (phase z s t some c st at ∙ q)))
          ∙ same
          ∙ ap (λ st. after_steps s st (replicate n given)) (sym (over c st at end given))

  -- the record
  record-left :
      (n c : ℕ) (st : State) → At z s c st → c ≤ cycle_steps z s → (said : Said ℕ) (buffer : List ℕ) → length buffer ≡ s.rows
      → (stepping s n (giving said buffer st)).state.cycle ≡ cycle_at z s (min (c + n) (cycle_steps z s))
  record-left zero c st at h said buffer e =
      let own : min (c + 0) (cycle_steps z s) ≡ c = min-eq_left (omega arith) ∙ omega arith in
      at.cycle ∙ ap (cycle_at z s) (sym own)
  record-left (suc n) c st at h said buffer e =
      go (ltb c (cycle_steps z s)) refl λ more.
      record-left n (suc c) (stepped s st) (stepped-at z s t some c st at) more (accepted 0) (step_matches s st) (matches-sized z s t some c st at)
    where
      go :
          (b : Bool) → ltb c (cycle_steps z s) ≡ b
          → (c < cycle_steps z s
          → (stepping s n (giving (accepted 0) (step_matches s st) (stepped s st))).state.cycle ≡ cycle_at z s (min (suc c + n) (cycle_steps z s)))
          → (stepping s (suc n) (giving said buffer st)).state.cycle ≡ cycle_at z s (min (c + suc n) (cycle_steps z s))
      go true q on =
          let more = ltb-true c (cycle_steps z s) q in
          let same : suc c + n ≡ c + suc n = omega arith in
          ap (λ r. r.state.cycle) (stepping-next z s t some c st at more n said buffer e)
          ∙ on more
          ∙ ap (λ c. cycle_at z s (min c (cycle_steps z s))) same
      go false q on =
          let end = ltb-false c (cycle_steps z s) q in
          let own : min (c + suc n) (cycle_steps z s) ≡ c = min-eq_right (omega arith) ∙ omega arith in
          ap (λ r. r.state.cycle) (stepping-closed s (suc n) (giving said buffer st) (phase z s t some c st at ∙ q))
          ∙ at.cycle
          ∙ ap (cycle_at z s) (sym own)

-- ---- by the questions

-- what is known where they are passed
module _ (s : Shape) (st : State) (matches : List ℕ) (none : first_no (step_questions s st matches) ≡ 0) where
  parts : (first_no (lent_questions s [] (all_lengths st.memory) (length matches)) ≡ 0) × (first_no (cycle_question s st.cycle ∷ []) ≡ 0)
  parts = first-none (lent_questions s [] (all_lengths st.memory) (length matches)) (cycle_question s st.cycle ∷ []) refl none

  taken : Taken s
  taken = lent-taken s st.memory (length matches) parts.0

  sized : length matches ≡ s.rows
  sized = lent-matches s st.memory (length matches) parts.0

  standing : (st.cycle.skip < s.digits) × (st.cycle.count < cycle_steps st.cycle.skip s) × (st.cycle ≡ cycle_at st.cycle.skip s st.cycle.count)
  standing = next-record s taken st.cycle (first-yes (is_next s st.cycle) 0 9 (lit< tt) parts.1).0

  at : At st.cycle.skip s st.cycle.count st
  at = record { sized = lent-sized s st.memory (length matches) parts.0; cycle = standing.2 }

-- single steps whose questions fail leave the state
refused-left : (s : Shape) (st : State) (matches : List ℕ) → (step_call s st matches).state ≡ st → (n : ℕ) → after_steps s st (replicate n matches) ≡ st
refused-left s st matches same zero = refl
refused-left s st matches same (suc n) = ap (λ st. after_steps s st (replicate n matches)) same ∙ refused-left s st matches same n

pub steps_claim : StepsClaim
unfolding steps_call step_call
steps_claim s st n matches = go (first_no (step_questions s st matches)) refl
  where
    go : (number : ℕ) → first_no (step_questions s st matches) ≡ number → (steps_call s st n matches).state ≡ after_steps s st (replicate n matches)
    go zero e =
        ap (λ r. r.state) (call-done (step_questions s st matches) matches st _ e)
        ∙ state-left st.cycle.skip s (taken s st matches e) (standing s st matches e).0 matches (sized s st matches e) n st.cycle.count st
        (at s st matches e) (accepted 0) matches (sized s st matches e)
    go (suc number) e =
        let fails : (first_no (step_questions s st matches) ≡ suc number) × (0 < suc number) = (e, zero-lt-suc number) in
        let made = giving (accepted 0) (step_matches s st) (stepped s st) in
        let same = ap (λ r. r.state) (call-refused (step_questions s st matches) matches st made (suc number) fails) in
        ap (λ r. r.state) (call-refused (step_questions s st matches) matches st _ (suc number) fails) ∙ sym (refused-left s st matches same n)

pub count_claim : CountClaim
unfolding steps_call
count_claim s st n matches done =
    let e = call-taken (step_questions s st matches) matches st _ done in
    ap (λ r. r.state.cycle) (call-done (step_questions s st matches) matches st _ e)
    ∙ record-left st.cycle.skip s (taken s st matches e) (standing s st matches e).0 n st.cycle.count st (at s st matches e)
    (omega (arith, (standing s st matches e).1)) (accepted 0) matches (sized s st matches e)
