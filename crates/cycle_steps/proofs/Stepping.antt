-- Steps one after the other from a state of a cycle: what the first of them makes, and where none is to be made. Assumes nothing.
use mathlib.Core.Path.{◌≡◌, refl, ap, ◌∙◌}
use mathlib.Core.Bool.{Bool, true, false, cond}
use mathlib.Core.List.{List, [], ◌∷◌}
use Prim.Native.Nat.{ℕ, zero, suc, ◌<◌}
use lib.Dec.{ltb}
use lib.ListN.{length}
use borrow.Author.Tests.{lt-ltb}
use Rattle.std.specs.Prelude.{Some, None}
use Rattle.parity.specs.Matrix.{cycle_steps}
use Rattle.parity.specs.Questions.{first_no, Taken}
use Rattle.parity.specs.declared.Shape.{Shape}
use Rattle.parity.proofs.Alongside.{equal-alongside}
use Rattle.parity.proofs.ListLaws.{length-tabulate}
use Rattle.shape.specs.Answers.{Said, Result, accepted, giving}
use Rattle.shape.proofs.Calling.{call-done}
use Rattle.schedule.proofs.Length.{schedule-length}
use Rattle.array_memory.specs.Geometry.{match_bytes}
use Rattle.array_memory.specs.Lengths.{Sized}
use Rattle.cycle_place.specs.Places.{place_of, entry_at, next_at}
use Rattle.cycle_lookup.specs.Lookup.{entry_matches}
use Rattle.cycle.specs.Record.{record_at, cycle_at, is_open, is_next}
use Rattle.cycle.specs.Calls.{State, step_matches, stepped, step_questions, step_call}
use Rattle.cycle.proofs.Asked.{step-asked}
use Rattle.cycle.proofs.CycleRecord.{record-count, record-skip, next-open}
use Rattle.cycle.proofs.Steps.{stepped-cycle, stepped-sized}
use Rattle.cycle_steps.specs.Steps.{stepping}

-- a record of a count is open while a lookup is to come
pub open-below : (z : ℕ) (s : Shape) → Taken s → (c : ℕ) → is_open (cycle_at z s c).phase ≡ ltb c (cycle_steps z s)
unfolding cycle_at next_at
open-below z s t c = rw (schedule-length z s t) (go (ltb c (cycle_steps z s)))
  where
    go : (b : Bool) → is_open (record_at z (cond b (Some (place_of (entry_at z s c))) None) c).phase ≡ b
    go true = refl
    go false = refl

-- nothing is done where the record is not open
pub stepping-closed : (s : Shape) (n : ℕ) (r : Result State) → is_open r.state.cycle.phase ≡ false → stepping s n r ≡ r
stepping-closed s zero r e = refl
stepping-closed s (suc n) r e = ap (λ b. cond b (stepping s n (step_call s r.state r.bytes)) r) e

-- the state of a cycle that skips z digits after c steps
pub record At (z : ℕ) (s : Shape) (c : ℕ) (st : State) : Type 0 where
  pub sized : Sized s st.memory
  pub cycle : st.cycle ≡ cycle_at z s c

module _ (z : ℕ) (s : Shape) (t : Taken s) (some : z < s.digits) where
  module _ (c : ℕ) (st : State) (at : At z s c st) where
    pub phase : is_open st.cycle.phase ≡ ltb c (cycle_steps z s)
    phase = ap (λ r. is_open r.phase) at.cycle ∙ open-below z s t c

    pub own-count : st.cycle.count ≡ c
    own-count = ap (λ r. r.count) at.cycle ∙ record-count z s c

    pub own-skip : st.cycle.skip ≡ z
    own-skip = ap (λ r. r.skip) at.cycle ∙ record-skip z s c

    -- a step while a lookup is to come, whatever its buffer holds
    pub step-made :
        c < cycle_steps z s → (buffer : List ℕ) → length buffer ≡ s.rows → step_call s st buffer ≡ giving (accepted 0) (step_matches s st) (stepped s st)
    unfolding step_call
    step-made h buffer e =
        let none : first_no (step_questions s st buffer) ≡ 0 = step-asked s t st at.sized buffer
        ∙ simp (equal-alongside (length buffer ∷ []) (s.rows ∷ []) (λ i. e i ∷ []), ap (is_next s) at.cycle ∙ next-open z s t c some h) in
        call-done (step_questions s st buffer) buffer st _ none

    pub stepped-at : At z s (suc c) (stepped s st)
    stepped-at = record { sized = stepped-sized s st at.sized; cycle = stepped-cycle s st z c own-skip own-count }

    -- so the bytes that are there before the first of some steps don't matter
    pub stepping-next :
        c < cycle_steps z s → (n : ℕ) (said : Said ℕ) (buffer : List ℕ) → length buffer ≡ s.rows
        → stepping s (suc n) (giving said buffer st) ≡ stepping s n (giving (accepted 0) (step_matches s st) (stepped s st))
    stepping-next h n said buffer e =
        ap (λ b. cond b (stepping s n (step_call s st buffer)) (giving said buffer st)) (phase ∙ lt-ltb c (cycle_steps z s) h)
        ∙ ap (stepping s n) (step-made h buffer e)

    pub matches-sized : length (step_matches s st) ≡ s.rows
    unfolding step_matches entry_matches match_bytes
    matches-sized = length-tabulate s.rows _
