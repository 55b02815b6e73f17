-- A start and steps: the record and the tallies at each count, and what question 9 takes. Assumes nothing.
use mathlib.Core.Path.{◌≡◌, refl, sym, ap, ◌∙◌}
use mathlib.Core.List.{List, [], ◌∷◌}
use Prim.Native.Nat.{ℕ, zero, suc, ◌+◌, ◌≤◌, ◌<◌}
use native.Mathlib.Nat.{add-zero, zero-add, le_of_eq}
use native.Mathlib.Omega.{arith}
use lib.ListN.{length, replicate, length-replicate}
use borrow.Author.Tests.{eq-eqb}
use Rattle.parity.specs.Matrix.{cycle_steps}
use Rattle.parity.specs.Questions.{Taken}
use Rattle.parity.specs.declared.Shape.{Shape}
use Rattle.cycle_lookup.specs.Lookup.{looked_up}
use Rattle.cycle.specs.Record.{cycle_at, is_next}
use Rattle.cycle.specs.Calls.{State, zero_rows, fresh, started, stepped_memory, stepped}
use Rattle.array_memory.specs.Lengths.{Sized}
use Rattle.call_lists.specs.Run.{start, step, after, run_from, run}
use Rattle.detection.specs.Claims.{steps_with, Buffers, CourseClaim, QuestionNineClaim}
use Rattle.cycle.proofs.CycleRecord.{record-count, record-skip, record-open, record-complete, next-open, next-record}
use Rattle.cycle.proofs.Steps.{fresh-sized, Tallies, started-tallies, started-sized, start-done, stepped-tallies, stepped-cycle, stepped-sized, step-state}

-- a start and c taken steps have been made on these cells and lines
pub record Underway (z : ℕ) (s : Shape) (held lines : List ℕ) (c : ℕ) (st : State) : Type 0 where
  pub still : (st.memory.cells ≡ held) × (st.memory.lines ≡ lines)
  pub sized : Sized s st.memory
  pub cycle : st.cycle ≡ cycle_at z s c
  pub tallies : Tallies z s st c

module _ (z : ℕ) (s : Shape) (c : ℕ) (st : State) {cells lines : List ℕ} (u : Underway z s cells lines c st) where
  count : st.cycle.count ≡ c
  count = ap (λ r. r.count) u.cycle ∙ record-count z s c

  skip : st.cycle.skip ≡ z
  skip = ap (λ r. r.skip) u.cycle ∙ record-skip z s c

module _ (z : ℕ) (s : Shape) (t : Taken s) (lt : z < s.digits) where
  underway-start : (st : State) → Sized s st.memory → Underway z s st.memory.cells st.memory.lines 0 (after s st (start z))
  unfolding started zero_rows
  underway-start st lent =
      rw (start-done s st lent t z lt) (record { still = (refl, refl); sized = started-sized s st lent z; cycle = refl; tallies = started-tallies s st z })

  underway-step :
      (cells lines : List ℕ) (c : ℕ) (st : State) (matches : List ℕ) → length matches ≡ s.rows → c < cycle_steps z s → Underway z s cells lines c st
      → Underway z s cells lines (suc c) (after s st (step matches))
  unfolding stepped stepped_memory looked_up
  underway-step cells lines c st matches l h u =
      rw (step-state s st u.sized t matches, eq-eqb _ _ l, ap (is_next s) u.cycle ∙ next-open z s t c lt h)
      (record {
        still = u.still;
        sized = stepped-sized s st u.sized;
        cycle = stepped-cycle s st z c (skip z s c st u) (count z s c st u);
        tallies = stepped-tallies s st t z c h (skip z s c st u) (count z s c st u) u.tallies;
      })

  underway-steps :
      (cells lines : List ℕ) (buffers : List (List ℕ)) (c : ℕ) (st : State) → Buffers s buffers → c + length buffers ≤ cycle_steps z s
      → Underway z s cells lines c st → Underway z s cells lines (c + length buffers) (run_from s st (steps_with buffers))
  underway-steps cells lines [] c st sized h u = rw add-zero u
  underway-steps cells lines (matches ∷ buffers) c st sized h u =
      let next : c + suc (length buffers) ≡ suc c + length buffers = omega arith in
      rw next
      (underway-steps cells lines buffers (suc c) (after s st (step matches)) sized.1 (omega arith)
      (underway-step cells lines c st matches sized.0 (omega arith) u))

  pub underway :
      (st : State) → Sized s st.memory → (buffers : List (List ℕ)) → Buffers s buffers → length buffers ≤ cycle_steps z s
      → Underway z s st.memory.cells st.memory.lines (length buffers) (run_from s st (start z ∷ steps_with buffers))
  underway st lent buffers sized h =
      rw zero-add at
      (underway-steps st.memory.cells st.memory.lines buffers 0 (after s st (start z)) sized (omega arith) (underway-start st lent))

pub course_claim : CourseClaim
course_claim z s t lt st lent buffers sized h = (
  (underway z s t lt st lent buffers sized h).cycle,
  record-count z s (length buffers),
  λ below. ap (λ r. r.phase) (record-open z s t (length buffers) below),
  λ e. ap (λ r. r.phase) (record-complete z s t (length buffers) (le_of_eq (sym e))),
)

-- c buffers of zeros
zero-buffers : (s : Shape) (c : ℕ) → Buffers s (replicate c (replicate s.rows 0))
zero-buffers s zero = tt
zero-buffers s (suc c) = (length-replicate s.rows 0, zero-buffers s c)

pub question_nine_claim : QuestionNineClaim
unfolding run
question_nine_claim s t cycle = (
  λ e.
      let next = next-record s t cycle e in
      let buffers : List (List ℕ) = replicate cycle.count (replicate s.rows 0) in
      let sized : Buffers s buffers = zero-buffers s cycle.count in
      let made : length buffers ≡ cycle.count = length-replicate cycle.count _ in
      let z : ℕ = cycle.skip in
      let lt : z < s.digits = next.0 in
      let h : length buffers < cycle_steps z s = omega (arith, next.1) in
      (z, lt, buffers, sized, h, next.2 ∙ ap (cycle_at z s) (sym made) ∙ sym (left z lt buffers sized h)),
  λ (z, lt, buffers, sized, h, e). ap (is_next s) (e ∙ left z lt buffers sized h) ∙ next-open z s t (length buffers) lt h,
)
  where
    left :
        (z : ℕ) → z < s.digits → (buffers : List (List ℕ)) → Buffers s buffers → length buffers < cycle_steps z s
        → (run_from s (fresh s) (start z ∷ steps_with buffers)).cycle ≡ cycle_at z s (length buffers)
    left z lt buffers sized h = (underway z s t lt (fresh s) (fresh-sized s) buffers sized (omega arith)).cycle
