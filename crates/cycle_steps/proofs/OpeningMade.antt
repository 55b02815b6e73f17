-- An opening among many steps: the state that it leaves, and that the steps from there on are the rest of them. Assumes nothing.
use mathlib.Core.Path.{◌≡◌, sym, ap, ap₂, subst, ◌∙◌}
use mathlib.Core.List.{List}
use Prim.Native.Nat.{ℕ, suc, ◌-◌, ◌≤◌, ◌<◌}
use native.Mathlib.Omega.{arith}
use lib.ListN.{length}
use Rattle.std.specs.Prelude.{Option}
use Rattle.parity.specs.Matrix.{cycle_steps}
use Rattle.parity.specs.Questions.{Taken}
use Rattle.parity.specs.declared.Shape.{Shape}
use Rattle.shape.specs.Answers.{accepted, giving}
use Rattle.array_memory.specs.Lengths.{Sized}
use Rattle.array_memory.specs.Memory.{Memory, with_all, with_flagged, with_lines, no_memory}
use Rattle.cycle_place.specs.Places.{next_at}
use Rattle.cycle_place.specs.declared.Place.{Place}
use Rattle.cycle_place.proofs.Following.{place-first}
use Rattle.cycle_place.proofs.Places.{place-entry}
use Rattle.cycle_lookup.specs.Lookup.{entry_matches, looked_up}
use Rattle.cycle_lookup.specs.Rows.{opening_of}
use Rattle.cycle.specs.Calls.{state_of, step_matches, stepped_memory, stepped}
use Rattle.cycle.specs.Record.{record_at, cycle_at, next_entry}
use Rattle.cycle.specs.declared.Cycle.{Cycle}
use Rattle.cycle.proofs.CycleRecord.{record-count, record-skip}
use Rattle.cycle.proofs.Steps.{stepped-sized}
use Rattle.cycle_steps.specs.Steps.{stepping}
use Rattle.cycle_steps.specs.Tests.{LookupsLeft}
use Rattle.cycle_steps.proofs.Stepping.{stepping-next}

-- what `make_opening` and `moved` leave
module _
    (s : Shape) (t : Taken s) (cycle : Cycle) {least : ℕ} (left : LookupsLeft s least cycle) {byte : ℕ} (here : next_entry s cycle ≡ opening_of s byte)
    {next : Option Place} (follows : next ≡ next_at cycle.skip s (suc cycle.count)) {cells lines counters flags totals looked flagged totalled : List ℕ}
    (sized : Sized s (with_all cells lines counters flags totals no_memory))
    (matched :
    (s : Shape) → Taken s → (mem : Memory) → Sized s (with_lines lines mem) → entry_matches s (opening_of s byte) (with_lines lines mem) ≡ looked)
    (opened :
    (s : Shape) → Taken s → (mem : Memory) → Sized s (with_lines lines (with_flagged flags totals mem))
    → looked_up s (opening_of s byte) (with_lines lines (with_flagged flags totals mem)) ≡ with_lines lines (with_flagged flagged totalled mem))
    {after : Cycle} (moved : after ≡ record_at cycle.skip next (suc cycle.count))
  where
    after_is : after ≡ cycle_at cycle.skip s (suc cycle.count)
    unfolding cycle_at
    after_is = moved ∙ ap (λ next. record_at cycle.skip next (suc cycle.count)) follows

    -- a test comes after the two openings, so a lookup is left after either
    pub after-left : (made : ℕ) → made ≤ suc cycle.count → cycle.count < 2 → LookupsLeft s made after
    after-left made enough few =
        let z = cycle.skip in
        let count : after.count ≡ suc cycle.count = ap (λ r. r.count) after_is ∙ record-count z s (suc cycle.count) in
        let own : after.skip ≡ z = ap (λ r. r.skip) after_is ∙ record-skip z s (suc cycle.count) in
        let test : 2 < cycle_steps z s = (place-entry z s t 2 _ (place-first z s t left.partial)).0 in
        record {
          partial = rw own left.partial;
          made = omega (arith, count);
          more = rw own (omega (arith, count));
          stands = after_is ∙ ap₂ (λ z c. cycle_at z s c) (sym own) (sym count);
        }

    pub after-sized : Sized s (with_all cells lines counters flagged totalled no_memory)
    unfolding stepped stepped_memory
    after-sized =
        let lent : Memory = with_all cells lines counters flags totals no_memory in
        subst (Sized s) (ap (λ e. looked_up s e lent) here ∙ opened s t lent sized) (stepped-sized s (state_of lent cycle) sized)

    pub opening-next :
        (mem : Memory) (most : ℕ) → 0 < most → (bytes : List ℕ) → length bytes ≡ s.rows
        → stepping s most (giving (accepted 0) bytes (state_of (with_all cells lines counters flags totals mem) cycle))
        ≡ stepping s (most - 1) (giving (accepted 0) looked (state_of (with_all cells lines counters flagged totalled mem) after))
    unfolding step_matches stepped stepped_memory
    opening-next mem most some bytes l =
        let lent : Memory = with_all cells lines counters flags totals mem in
        let enough : most ≡ suc (most - 1) = omega arith in
        ap (λ n. stepping s n (giving (accepted 0) bytes (state_of lent cycle))) enough
        ∙ stepping-next cycle.skip s t left.partial cycle.count (state_of lent cycle) (record { sized = sized; cycle = left.stands }) left.more (most - 1)
        (accepted 0) bytes l
        ∙ ap
        (λ e.
        stepping s (most - 1) (giving (accepted 0) (entry_matches s e lent) (state_of (looked_up s e lent) (cycle_at cycle.skip s (suc cycle.count)))))
        here
        ∙ (λ i. stepping s (most - 1) (giving (accepted 0) (matched s t lent sized i) (state_of (opened s t lent sized i) (sym after_is i))))
