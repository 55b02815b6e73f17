-- `cycle::Cycle::step_at` meets its contract: `locate` asks 9 and tells the lookup and the place after it, `make_opening` or `make_test` makes the
-- lookup, and the record is moved on. Assumes nothing.
use mathlib.Core.Path.{◌≡◌, refl, sym, ap, ◌∙◌}
use mathlib.Core.Bool.{true, false}
use mathlib.Core.List.{List, [], ◌∷◌}
use Prim.Native.Nat.{ℕ, suc}
use lib.Dec.{lit<}
use lib.ListN.{length}
use Rattle.parity.specs.declared.Shape.{Shape}
use Rattle.parity.specs.Questions.{Question, first_no}
use Rattle.shape.proofs.Refusals.{first_rest}
use Rattle.shape.specs.declared.answer.Refusal.TheVariants.{Record}
use Rattle.array_questions.specs.Questions.{lent_questions}
use Rattle.schedule.specs.Schedule.{Entry}
use Rattle.array_memory.specs.Lengths.{all_lengths}
use Rattle.array_memory.specs.Memory.{Memory, with_rows, with_all, no_memory}
use Rattle.cycle_place.specs.Walk.{test_of}
use Rattle.cycle_place.proofs.Places.{place-entry}
use Rattle.cycle_lookup.specs.Lookup.{entry_matches, looked_up}
use Rattle.cycle_lookup.specs.Rows.{opening_of}
use Rattle.cycle.specs.Record.{record_at, cycle_at, next_entry, is_next, cycle_question}
use Rattle.cycle.specs.Calls.{state_of, step_matches, stepped_memory, stepped, step_call}
use Rattle.cycle.specs.Methods.{changing, done_with}
use Rattle.cycle.specs.declared.Cycle.{Cycle}
use Rattle.cycle.specs.declared.Changed.{Changed}
use Rattle.cycle.proofs.CycleRecord.{next_place}
use Rattle.cycle.proofs.Given.{gives-refusal, gives-done}
use Rattle.cycle.proofs.Located.{told-opening, told-test, told_none, movable, lent-taken, lent-sized, lent-matches}
use Rattle.cycle.proofs.Cycle.step_at.Goals as goal

pub moved-requires : goal.moved-requires
moved-requires c =
    let args = c.args in
    let self = args.self in
    let lent : Memory = with_all args.cells.now args.lines.now args.counters.now args.flags.now args.totals.now no_memory in
    let taken = lent-taken args.shape lent (length args.matches.now) c.requires.matches_value in
    let found = told-opening self.skip args.shape self.place _ _ _ _ c.in-Opening.ensures in
    movable args.shape taken self found.0

pub make_test-requires : goal.make_test-requires
make_test-requires c =
    let args = c.args in
    let self = args.self in
    let lent : Memory = with_all args.cells.now args.lines.now args.counters.now args.flags.now args.totals.now no_memory in
    let none = c.requires.matches_value in
    let taken = lent-taken args.shape lent (length args.matches.now) none in
    let found = told-test self.skip args.shape self.place _ _ _ c.in-Test.ensures in
    record {
      test_next = record {
        taken = taken;
        columns = c.requires.padded_lent.columns;
        stands = (next_place args.shape taken self found.1 found.0).0;
        ends = ap (λ here. here.ends) found.2;
      };
      rows_lent = record {
        memory = lent-sized args.shape lent (length args.matches.now) none;
        matches = lent-matches args.shape lent (length args.matches.now) none;
      };
    }

pub moved-requires-in-Test : goal.moved-requires-in-Test
moved-requires-in-Test c =
    let args = c.args in
    let self = args.self in
    let lent : Memory = with_all args.cells.now args.lines.now args.counters.now args.flags.now args.totals.now no_memory in
    let taken = lent-taken args.shape lent (length args.matches.now) c.requires.matches_value in
    let found = told-test self.skip args.shape self.place _ _ _ c.in-Test.ensures in
    movable args.shape taken self found.0

-- 9
pub returns-in-Elsewhere : goal.returns-in-Elsewhere
unfolding step_call
returns-in-Elsewhere c =
    let args = c.args in
    let s = args.shape in
    let self = args.self in
    let lent : Memory → Memory = λ mem. with_all args.cells.now args.lines.now args.counters.now args.flags.now args.totals.now mem in
    let first : List Question = lent_questions s [] (all_lengths (lent no_memory)) (length args.matches.now) in
    let more : List Question = cycle_question s self ∷ [] in
    let fails : is_next s self ≡ false = told_none self.skip s self.place _ self.count c.in-Elsewhere.ensures in
    let own : first_no more ≡ 9 = rw fails refl in
    λ mem. gives-refusal _ args.matches.now (lent mem) self _ _ Record
    (first_rest first more refl c.requires.matches_value ∙ own, lit< tt) c.refused.ensures

-- what a lookup that is made gives
step_gives :
    (s : Shape) (self : Cycle) (mem : Memory) (bytes : List ℕ) → first_no (lent_questions s [] (all_lengths mem) (length bytes)) ≡ 0
    → is_next s self ≡ true → (e : Entry) → next_entry s self ≡ e → (r : Changed) (cycle : Cycle) (matches : List ℕ) (last : Memory)
    → r ≡ done_with cycle → entry_matches s e mem ≡ matches → looked_up s e mem ≡ last → cycle_at self.skip s (suc self.count) ≡ cycle
    → step_call s (state_of mem self) bytes ≡ changing r matches last
unfolding step_call step_matches stepped stepped_memory
step_gives s self mem bytes none next e here r cycle matches last done looked stepped moved =
    let first : List Question = lent_questions s [] (all_lengths mem) (length bytes) in
    let more : List Question = cycle_question s self ∷ [] in
    let own : first_no more ≡ 0 = rw next refl in
    gives-done _ bytes mem self r _ _ _ _ _ cycle
    (first_rest first more refl none ∙ own) done
    (ap (λ e. entry_matches s e mem) here ∙ looked) (ap (λ e. looked_up s e mem) here ∙ stepped) moved

-- an opening
pub returns-in-Opening : goal.returns-in-Opening
unfolding cycle_at
returns-in-Opening c =
    let args = c.args in
    let s = args.shape in
    let self = args.self in
    let lent : Memory → Memory = λ mem. with_all args.cells.now args.lines.now args.counters.now args.flags.now args.totals.now mem in
    let none = c.requires.matches_value in
    let t = lent-taken s (lent no_memory) (length args.matches.now) none in
    let sized = lent-sized s (lent no_memory) (length args.matches.now) none in
    let (next, few, low, entry, place) = told-opening self.skip s self.place _ _ _ _ c.in-Opening.ensures in
    let after = c.moved.ensures ∙ ap (λ n. record_at self.skip n (suc self.count)) place in
    let made = c.make_opening.ensures in
    λ mem. step_gives s self (lent mem) args.matches.now none next (opening_of s c.in-Opening.byte) entry _ _ _ _ c.done.ensures
    (made.matched s t (lent mem) sized) (made.opened s t (lent mem) sized) (sym after)

-- a test
pub returns-in-Test : goal.returns-in-Test
unfolding cycle_at
returns-in-Test c =
    let args = c.args in
    let s = args.shape in
    let self = args.self in
    let lent : Memory → Memory = λ mem. with_all args.cells.now args.lines.now args.counters.now args.flags.now args.totals.now mem in
    let none = c.requires.matches_value in
    let t = lent-taken s (lent no_memory) (length args.matches.now) none in
    let (next, low, here) = told-test self.skip s self.place _ _ _ c.in-Test.ensures in
    let at = next_place s t self low next in
    let after = c.moved-in-Test.ensures ∙ ap (λ here. record_at self.skip here.next (suc self.count)) here in
    let made = c.make_test.ensures in
    λ mem. step_gives s self (lent mem) args.matches.now none next (test_of self.skip s self.place) (place-entry self.skip s t self.count self.place at).1
    _ _ _ _ c.done-in-Test.ensures
    (made.matched (with_rows args.counters.now args.flags.now args.totals.now mem)) (made.stepped mem) (sym after)
