-- Tests one after the other with their column's cells held: what is known after some of them, and what one more makes. Assumes nothing.
use mathlib.Core.Path.{◌≡◌, refl, sym, ap, ap₂, subst, ◌∙◌}
use mathlib.Core.Bool.{true}
use mathlib.Core.List.{List}
use Prim.Native.Nat.{ℕ, zero, suc, ◌≤◌, ◌<◌}
use native.Mathlib.Omega.{arith}
use lib.ListN.{length, get_or}
use borrow.Author.Tests.{ltb-true}
use Rattle.std.specs.Prelude.{Option}
use Rattle.parity.specs.Matrix.{cycle_steps}
use Rattle.parity.specs.Shape.{columns}
use Rattle.parity.specs.Questions.{Taken}
use Rattle.parity.specs.declared.Shape.{Shape}
use Rattle.parity.proofs.ListLaws.{length-tabulate}
use Rattle.parity.proofs.Longest.{lookups-high}
use Rattle.parity.proofs.Taken.{limits}
use Rattle.shape.specs.Answers.{accepted, giving}
use Rattle.array_memory.specs.Lengths.{Sized}
use Rattle.array_memory.specs.Memory.{Memory, with_all, no_memory}
use Rattle.cycle_passes.specs.Passes.{column_cells, reduced_bytes}
use Rattle.cycle_place.specs.Places.{next_at}
use Rattle.cycle_place.specs.Walk.{Stands, index_of, AtPlace, test_of}
use Rattle.cycle_place.specs.declared.Place.{Place}
use Rattle.cycle_place.proofs.Places.{place-entry}
use Rattle.cycle_lookup.specs.Lookup.{entry_matches, looked_up}
use Rattle.cycle_lookup.proofs.Passes.{look-reduced, test_below}
use Rattle.cycle.specs.Record.{record_at, cycle_at, next_entry, is_open, is_next}
use Rattle.cycle.specs.Calls.{state_of, step_matches, stepped_memory, stepped}
use Rattle.cycle.specs.declared.Cycle.{Cycle}
use Rattle.cycle.specs.Moves.{Movable}
use Rattle.cycle.proofs.CycleRecord.{open-phase, record-count, record-skip, next-open, next_place}
use Rattle.cycle.proofs.Steps.{stepped-sized}
use Rattle.cycle_steps.specs.Steps.{stepping}
use Rattle.cycle_steps.specs.Tests.{LookupsLeft, tested_at}
use Rattle.cycle_steps.proofs.Stepping.{open-below, stepping-next}

-- ---- a record whose next lookup is a test

module _ (s : Shape) (t : Taken s) (cycle : Cycle) (tests : LookupsLeft s 2 cycle) where
  pub test-place : AtPlace cycle.skip s cycle.count cycle.place
  test-place =
      let next : is_next s cycle ≡ true =
      ap (is_next s) tests.stands ∙ next-open cycle.skip s t cycle.count tests.partial tests.more in
      next_place s t cycle tests.made next

  pub test-entry : next_entry s cycle ≡ test_of cycle.skip s cycle.place
  test-entry = (place-entry cycle.skip s t cycle.count cycle.place test-place).1

  -- steps that begin with a test: any bytes in its buffer, and counters by their remainders
  pub steps-reduced :
      (cells lines counters flags totals : List ℕ) → Sized s (with_all cells lines counters flags totals no_memory) → (mem : Memory) (n : ℕ) → 0 < n
      → (bytes other : List ℕ) → length bytes ≡ s.rows → length other ≡ s.rows
      → stepping s n (giving (accepted 0) bytes (state_of (with_all cells lines counters flags totals mem) cycle))
      ≡ stepping s n (giving (accepted 0) other (state_of (with_all cells lines (reduced_bytes s.radix counters) flags totals mem) cycle))
  unfolding step_matches stepped stepped_memory entry_matches
  steps-reduced cells lines counters flags totals sized mem zero low bytes other l o = absurd (omega arith)
  steps-reduced cells lines counters flags totals sized mem (suc n) low bytes other l o =
      let z : ℕ = cycle.skip in
      let lent : Memory = with_all cells lines counters flags totals mem in
      let reduced : Memory = with_all cells lines (reduced_bytes s.radix counters) flags totals mem in
      let rows : Sized s reduced =
      record {
        cells = sized.cells;
        lines = sized.lines;
        rows =
            record {
              counters = length-tabulate (length counters) _ ∙ sized.rows.counters;
              flags = sized.rows.flags;
              totals = sized.rows.totals;
            };
      } in
      let same : looked_up s (next_entry s cycle) lent ≡ looked_up s (next_entry s cycle) reduced =
      ap (λ e. looked_up s e lent) test-entry
      ∙ sym (look-reduced s (test_of z s cycle.place) refl lent sized.rows.counters)
      ∙ ap (λ e. looked_up s e reduced) (sym test-entry) in
      stepping-next z s t tests.partial cycle.count (state_of lent cycle) (record { sized = sized; cycle = tests.stands }) tests.more n (accepted 0)
      bytes l
      ∙ ap (λ made. stepping s n (giving (accepted 0) (entry_matches s (next_entry s cycle) lent) (state_of made (cycle_at z s (suc cycle.count))))) same
      ∙ sym
      (stepping-next z s t tests.partial cycle.count (state_of reduced cycle) (record { sized = rows; cycle = tests.stands }) tests.more n
      (accepted 0) other o)

-- ---- the column held

-- the record after some steps, the openings among them, and the cells of the last test's column in the place of the match bytes
pub record Held (z : ℕ) (s : Shape) (cells lines counters flags totals matches : List ℕ) (now : Cycle) (last : Place) : Type 0 where
  pub sized : Sized s (with_all cells lines counters flags totals no_memory)
  pub cycle : now ≡ cycle_at z s now.count
  pub opened : 2 ≤ now.count
  pub stands : Stands z s last
  pub column : matches ≡ column_cells (columns s) last.column cells s.rows
  pub below : (i : ℕ) → i < length counters → get_or counters i 0 < s.radix

module _
    (z : ℕ) (s : Shape) (t : Taken s) (some : z < s.digits) {cells lines counters flags totals matches : List ℕ} {now : Cycle} {last : Place}
    (h : Held z s cells lines counters flags totals matches now last) (open-now : is_open now.phase ≡ true)
  where
    own-skip : now.skip ≡ z
    own-skip = ap (λ r. r.skip) h.cycle ∙ record-skip z s now.count

    before-end : now.count < cycle_steps z s
    before-end = ltb-true now.count (cycle_steps z s) (sym (ap (λ r. is_open r.phase) h.cycle ∙ open-below z s t now.count) ∙ open-now)

    -- the record can be moved on
    pub moves : Movable now
    moves = record { open-phase = open-phase now.phase open-now; below = omega (arith, before-end, lookups-high z s t) }

    -- a test is next
    left : LookupsLeft s 2 now
    left =
        record {
          partial = rw own-skip some;
          made = h.opened;
          more = rw own-skip before-end;
          stands = h.cycle ∙ ap (λ z. cycle_at z s now.count) (sym own-skip);
        }

    pub at_test : AtPlace z s now.count now.place
    at_test = subst (λ z. AtPlace z s now.count now.place) own-skip (test-place s t now left)

    next-is : next_entry s now ≡ test_of z s now.place
    next-is = test-entry s t now left ∙ ap (λ z. test_of z s now.place) own-skip

    -- what is left when it is made
    module _
        {next : Option Place} {after : Cycle} {counted flagged totalled held : List ℕ} (follows : next ≡ next_at z s (suc (index_of z s now.place)))
        (moved : after ≡ record_at now.skip next (suc now.count))
        (looked :
        (mem : Memory)
        → looked_up s (test_of z s now.place) (with_all cells lines counters flags totals mem) ≡ with_all cells lines counted flagged totalled mem)
        (taken : held ≡ column_cells (columns s) now.place.column cells s.rows)
      where
        after_is : after ≡ cycle_at z s (suc now.count)
        unfolding cycle_at
        after_is =
            moved
            ∙ ap₂ (λ z next. record_at z next (suc now.count)) own-skip (follows ∙ ap (λ c. next_at z s (suc c)) at_test.1)

        after-count : after.count ≡ suc now.count
        after-count = ap (λ r. r.count) after_is ∙ record-count z s (suc now.count)

        after-memory : Sized s (with_all cells lines counted flagged totalled no_memory)
        unfolding stepped stepped_memory
        after-memory =
            subst (Sized s) (ap (λ e. looked_up s e (with_all cells lines counters flags totals no_memory)) next-is ∙ looked no_memory)
            (stepped-sized s (state_of (with_all cells lines counters flags totals no_memory) now) h.sized)

        pub one_more : Held z s cells lines counted flagged totalled held after now.place
        one_more =
            record {
              sized = after-memory;
              cycle = after_is ∙ ap (cycle_at z s) (sym after-count);
              opened = omega (arith, h.opened, after-count);
              stands = at_test.0;
              column = taken;
              below = λ i l.
                  subst (λ mem. get_or mem.counters i 0 < s.radix) (looked no_memory)
                  (test_below s (test_of z s now.place) refl (omega (arith, (limits s t).radix_low)) (with_all cells lines counters flags totals no_memory) i
                  (omega (arith, after-memory.rows.counters)));
            }

        pub one-step :
            (mem : Memory) (n : ℕ) (bytes : List ℕ) → length bytes ≡ s.rows
            → stepping s (suc n) (giving (accepted 0) bytes (state_of (with_all cells lines counters flags totals mem) now))
            ≡ stepping s n (tested_at z s now.place (with_all cells lines counted flagged totalled mem) after)
        unfolding step_matches stepped stepped_memory entry_matches
        one-step mem n bytes l =
            let lent : Memory = with_all cells lines counters flags totals mem in
            stepping-next z s t some now.count (state_of lent now) (record { sized = h.sized; cycle = h.cycle }) before-end n (accepted 0) bytes l
            ∙ ap
            (λ e. stepping s n (giving (accepted 0) (entry_matches s e lent) (state_of (looked_up s e lent) (cycle_at now.skip s (suc now.count)))))
            next-is
            ∙ ap₂ (λ made cycle. stepping s n (giving (accepted 0) (entry_matches s (test_of z s now.place) lent) (state_of made cycle)))
            (looked mem) (ap (λ z. cycle_at z s (suc now.count)) own-skip ∙ sym after_is)
