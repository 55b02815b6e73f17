-- `cycle_steps::steps_at` meets its contract: `locate` asks 9, an opening is made where it is next, and `make_rest` or `make_tests` makes the other steps.
-- Assumes nothing.
use mathlib.Core.Path.{◌≡◌, refl, sym, ap, ◌∙◌}
use mathlib.Core.Bool.{true, false}
use mathlib.Core.List.{List, [], ◌∷◌}
use Prim.Native.Nat.{ℕ, ◌≤◌}
use native.Mathlib.Omega.{arith}
use lib.Dec.{lit<}
use lib.ListN.{length}
use Rattle.parity.specs.Questions.{Question, first_no, Taken}
use Rattle.parity.specs.declared.Shape.{Shape}
use Rattle.shape.specs.Answers.{accepted, giving}
use Rattle.shape.proofs.Calling.{call-done}
use Rattle.shape.proofs.Refusals.{first_rest}
use Rattle.shape.specs.declared.answer.Refusal.TheVariants.{Record}
use Rattle.array_memory.specs.Lengths.{all_lengths}
use Rattle.array_memory.specs.Memory.{Memory, with_all, no_memory}
use Rattle.array_questions.specs.Questions.{lent_questions}
use Rattle.cycle_place.proofs.Padding.{padded-part, padded-matrix}
use Rattle.cycle.specs.Calls.{state_of}
use Rattle.cycle.specs.Methods.{changing, done_with}
use Rattle.cycle.specs.Record.{is_next, cycle_question}
use Rattle.cycle.specs.declared.Changed.{Changed}
use Rattle.cycle.specs.declared.Cycle.{Cycle}
use Rattle.cycle.proofs.CycleRecord.{next-record}
use Rattle.cycle.proofs.Given.{gives-refusal}
use Rattle.cycle.proofs.Located.{told-opening, told-test, told_none, movable, lent-sized, lent-matches}
use Rattle.cycle_steps.specs.Steps.{stepping, steps_call}
use Rattle.cycle_steps.specs.Tests.{LookupsLeft}
use Rattle.cycle_steps.proofs.OpeningMade.{after-left, after-sized, opening-next}
use Rattle.cycle_steps.proofs.steps_at.Goals as goal

-- a record that question 9 takes has lookups to come
lookups-left : (s : Shape) → Taken s → (cycle : Cycle) → is_next s cycle ≡ true → (least : ℕ) → least ≤ cycle.count → LookupsLeft s least cycle
lookups-left s t cycle next least h =
    let stands = next-record s t cycle next in
    record { partial = stands.0; made = h; more = stands.1; stands = stands.2 }

-- what is given where question 9 is passed
given :
    (s : Shape) (cycle : Cycle) (mem : Memory) (most : ℕ) (bytes : List ℕ) → first_no (lent_questions s [] (all_lengths mem) (length bytes)) ≡ 0
    → is_next s cycle ≡ true → (r : Changed) (after : Cycle) (matches : List ℕ) (last : Memory) → r ≡ done_with after
    → stepping s most (giving (accepted 0) bytes (state_of mem cycle)) ≡ changing (done_with after) matches last
    → steps_call s (state_of mem cycle) most bytes ≡ changing r matches last
unfolding steps_call
given s cycle mem most bytes none next r after matches last done made =
    let first : List Question = lent_questions s [] (all_lengths mem) (length bytes) in
    let more : List Question = cycle_question s cycle ∷ [] in
    let own : first_no more ≡ 0 = rw next refl in
    call-done _ bytes (state_of mem cycle) _ (first_rest first more refl none ∙ own)
    ∙ made
    ∙ ap (λ r. changing r matches last) (sym done)

-- an opening is next, and no step is to be made
pub returns-then-most-eq0 : goal.returns-then-most-eq0
returns-then-most-eq0 c =
    let args = c.args in
    let s = args.shape in
    let cycle = args.cycle in
    let lent : Memory → Memory = λ mem. with_all args.cells.now args.lines.now args.counters.now args.flags.now args.totals.now mem in
    let found = told-opening cycle.skip s cycle.place _ _ _ _ c.in-Opening.ensures in
    λ mem. given s cycle (lent mem) args.most args.matches.now c.requires.matches_value found.0 _ cycle _ _ c.done.ensures
    (rw c.if-most-eq0.true refl)

pub moved-requires : goal.moved-requires
moved-requires c =
    let args = c.args in
    let cycle = args.cycle in
    let found = told-opening cycle.skip args.shape cycle.place _ _ _ _ c.in-Opening.ensures in
    movable args.shape c.requires.padded_lent.taken cycle found.0

pub slice_bounds-make_rest-end : goal.slice_bounds-make_rest-end
slice_bounds-make_rest-end c = padded-part c.requires.padded_lent

pub make_rest-requires : goal.make_rest-requires
make_rest-requires c =
    let args = c.args in
    let s = args.shape in
    let cycle = args.cycle in
    let lent : Memory = with_all args.cells.now args.lines.now args.counters.now args.flags.now args.totals.now no_memory in
    let none = c.requires.matches_value in
    let t = c.requires.padded_lent.taken in
    let sized = lent-sized s lent (length args.matches.now) none in
    let some : 0 ≤ cycle.count = omega arith in
    let (next, few, low, here, follows) = told-opening cycle.skip s cycle.place _ _ _ _ c.in-Opening.ensures in
    let left = lookups-left s t cycle next 0 some in
    let made = c.make_opening.ensures in
    record {
      matrix_lent = padded-matrix c.requires.padded_lent;
      rows_lent = record {
        memory = after-sized s t cycle left here follows sized made.matched made.opened c.moved.ensures;
        matches = c.make_opening.auto.matches ∙ lent-matches s lent (length args.matches.now) none;
      };
      lookups_left = after-left s t cycle left here follows sized made.matched made.opened c.moved.ensures 1 (omega arith) few;
    }

pub slice_bounds-make_tests-end : goal.slice_bounds-make_tests-end
slice_bounds-make_tests-end c = padded-part c.requires.padded_lent

pub make_tests-requires : goal.make_tests-requires
make_tests-requires c =
    let args = c.args in
    let s = args.shape in
    let cycle = args.cycle in
    let lent : Memory = with_all args.cells.now args.lines.now args.counters.now args.flags.now args.totals.now no_memory in
    let none = c.requires.matches_value in
    let found = told-test cycle.skip s cycle.place _ _ _ c.in-Test.ensures in
    record {
      matrix_lent = padded-matrix c.requires.padded_lent;
      rows_lent = record {
        memory = lent-sized s lent (length args.matches.now) none;
        matches = lent-matches s lent (length args.matches.now) none;
      };
      lookups_left = lookups-left s c.requires.padded_lent.taken cycle found.0 2 found.1;
    }

-- 9
pub returns-in-Elsewhere : goal.returns-in-Elsewhere
unfolding steps_call
returns-in-Elsewhere c =
    let args = c.args in
    let s = args.shape in
    let cycle = args.cycle in
    let lent : Memory → Memory = λ mem. with_all args.cells.now args.lines.now args.counters.now args.flags.now args.totals.now mem in
    let first : List Question = lent_questions s [] (all_lengths (lent no_memory)) (length args.matches.now) in
    let more : List Question = cycle_question s cycle ∷ [] in
    let fails : is_next s cycle ≡ false = told_none cycle.skip s cycle.place _ cycle.count c.in-Elsewhere.ensures in
    let own : first_no more ≡ 9 = rw fails refl in
    λ mem. gives-refusal _ args.matches.now (lent mem) cycle _ _ Record
    (first_rest first more refl c.requires.matches_value ∙ own, lit< tt) c.refused.ensures

-- an opening, and the rest after it
pub returns-else-most-eq0 : goal.returns-else-most-eq0
returns-else-most-eq0 c =
    let args = c.args in
    let s = args.shape in
    let cycle = args.cycle in
    let lent : Memory → Memory = λ mem. with_all args.cells.now args.lines.now args.counters.now args.flags.now args.totals.now mem in
    let none = c.requires.matches_value in
    let t = c.requires.padded_lent.taken in
    let sized = lent-sized s (lent no_memory) (length args.matches.now) none in
    let some : 0 ≤ cycle.count = omega arith in
    let (next, few, low, here, follows) = told-opening cycle.skip s cycle.place _ _ _ _ c.in-Opening.ensures in
    let left = lookups-left s t cycle next 0 some in
    let made = c.make_opening.ensures in
    λ mem. given s cycle (lent mem) args.most args.matches.now none next _ _ _ _ c.done-in-Opening.ensures
    (opening-next s t cycle left here follows sized made.matched made.opened c.moved.ensures mem args.most (omega arith) args.matches.now
    (lent-matches s (lent no_memory) (length args.matches.now) none)
    ∙ c.make_rest.ensures mem)

-- tests alone
pub returns-in-Test : goal.returns-in-Test
returns-in-Test c =
    let args = c.args in
    let s = args.shape in
    let cycle = args.cycle in
    let lent : Memory → Memory = λ mem. with_all args.cells.now args.lines.now args.counters.now args.flags.now args.totals.now mem in
    let found = told-test cycle.skip s cycle.place _ _ _ c.in-Test.ensures in
    λ mem. given s cycle (lent mem) args.most args.matches.now c.requires.matches_value found.0 _ _ _ _ c.done-in-Test.ensures (c.make_tests.ensures mem)
