-- An opening leaves the counters as it found them. Assumes nothing.
use mathlib.Core.Path.{◌≡◌, refl, sym, ap, ◌∙◌}
use mathlib.Core.List.{List, [], ◌∷◌}
use Prim.Native.Nat.{ℕ, zero, suc, ◌<◌}
use native.Mathlib.Omega.{arith}
use lib.Dec.{lit<}
use lib.ListN.{length, get_or}
use lib.Seq.{ext_get_or}
use Rattle.parity.specs.Lists.{tabulate}
use Rattle.parity.specs.Questions.{Question, first_no, lengths_question}
use Rattle.parity.specs.declared.Shape.{Shape}
use Rattle.parity.proofs.ListLaws.{length-tabulate, get_or-tabulate}
use Rattle.array_questions.specs.Questions.{step_arguments, lent_questions}
use Rattle.schedule.specs.Schedule.{Entry, opening, dead_opening, shorted_opening, schedule}
use Rattle.schedule.specs.Tally.{reset}
use Rattle.shape.specs.Answers.{accepted, giving}
use Rattle.shape.proofs.Calling.{call-done, call-taken}
use Rattle.shape.proofs.Refusals.{first-none, call-passed}
use Rattle.array_memory.specs.Lengths.{all_wanted, all_lengths, Sized}
use Rattle.array_memory.proofs.Asked.{all-sized}
use Rattle.cycle_place.specs.Places.{entry_at}
use Rattle.cycle_lookup.specs.Lookup.{entry_matches, counted_rows, reset_rows, looked_up}
use Rattle.cycle.specs.Record.{cycle_question}
use Rattle.cycle.specs.Calls.{State, step_questions, step_matches, stepped_memory, stepped, step_call}
use Rattle.detection.specs.Claims.{OpeningClaim}

-- bytes read one after the other
read_all : (bytes : List ℕ) (m : ℕ) → length bytes ≡ m → tabulate m (λ i. get_or bytes i 0) ≡ bytes
read_all bytes m e =
    let read : ℕ → ℕ = λ i. get_or bytes i 0 in
    let many : length (tabulate m read) ≡ m = length-tabulate m read in
    ext_get_or 0 (tabulate m read) bytes (many ∙ sym e) (λ i h. get_or-tabulate m read i 0 (omega arith))

-- an opening counts and resets nothing
opened :
    (s : Shape) (byte d a : ℕ) (counters matches : List ℕ) → length counters ≡ s.rows
    → reset_rows s (opening byte d a) (counted_rows s (opening byte d a) counters matches) ≡ counters
unfolding counted_rows reset_rows reset
opened s byte d a counters matches e =
    let read = read_all counters s.rows e in
    ap (λ bytes. tabulate s.rows (λ i. get_or bytes i 0)) read ∙ read

-- the first two entries are openings
first_two :
    (z : ℕ) (s : Shape) (c : ℕ) → c < 2 → (counters : List ℕ) (bytes : Entry → List ℕ) → length counters ≡ s.rows
    → let e = entry_at z s c in reset_rows s e (counted_rows s e counters (bytes e)) ≡ counters
unfolding entry_at schedule
first_two z s zero h counters bytes e = opened s 1 0 0 counters (bytes dead_opening) e
first_two z s (suc zero) h counters bytes e = opened s 0 s.digits 1 counters (bytes (shorted_opening s)) e
first_two z s (suc (suc c)) h counters bytes e = absurd (omega arith)

-- a step that is taken is lent buffers of their lengths
step-sized : (s : Shape) (st : State) (matches : List ℕ) → first_no (step_questions s st matches) ≡ 0 → Sized s st.memory
step-sized s st matches none =
    let lent : List Question = lent_questions s [] (all_lengths st.memory) (length matches) in
    let six : Question = lengths_question (all_lengths st.memory) (all_wanted s) in
    all-sized s st.memory
    (call-passed s [] six (step_arguments s (length matches)) refl (lit< tt) (first-none lent (cycle_question s st.cycle ∷ []) refl none).0).lent

pub opening_claim : OpeningClaim
unfolding step_call stepped stepped_memory looked_up
opening_claim s st matches taken early =
    let done = giving (accepted 0) (step_matches s st) (stepped s st) in
    let none = call-taken (step_questions s st matches) matches st done taken in
    ap (λ r. r.state.memory.counters) (call-done (step_questions s st matches) matches st done none)
    ∙ first_two st.cycle.skip s st.cycle.count early st.memory.counters (λ e. entry_matches s e st.memory)
    (step-sized s st matches none).rows.counters
