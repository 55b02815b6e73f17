-- What start and step do to a state with buffers of their lengths: to the record, and to the tallies of the rows. Assumes nothing.
use mathlib.Core.Path.{◌≡◌, refl, sym, ap, ap₂, ◌∙◌}
use mathlib.Core.Bool.{Bool, true, false, cond, ◌&&◌}
use mathlib.Core.List.{List, []}
use Prim.Native.Nat.{ℕ, suc, ◌<◌}
use native.Mathlib.Omega.{arith}
use lib.Dec.{eqb, ltb}
use lib.ListN.{length, get_or, take, replicate, length-replicate, get_or-replicate}
use lib.Seq.{take_all}
use borrow.Author.Tests.{lt-ltb}
use Rattle.parity.specs.Shape.{levels, columns, cell_count}
use Rattle.parity.specs.Matrix.{cycle_steps}
use Rattle.parity.specs.Claims.{Below}
use Rattle.parity.specs.Questions.{Taken}
use Rattle.parity.specs.declared.Shape.{Shape}
use Rattle.parity.proofs.ListLaws.{length-tabulate, get_or-tabulate}
use Rattle.schedule.specs.Schedule.{within, schedule}
use Rattle.schedule.specs.Coarse.{is_balanced_from}
use Rattle.schedule.specs.Tally.{Tally, tally_step, tally_run, fresh_tally}
use Rattle.schedule.proofs.Length.{schedule-length}
use Rattle.schedule.proofs.Flags.{flag-test}
use Rattle.schedule.proofs.Runs.{tally_run-take}
use Rattle.schedule.proofs.Digit.{tally}
use Rattle.parity.specs.Questions.{if_taken}
use Rattle.shape.specs.Answers.{accepted, refused, giving, calling}
use Rattle.array_memory.specs.Geometry.{row_at, row_match, match_bytes}
use Rattle.array_memory.specs.Blocks.{blocks_of, blocks, block_totals}
use Rattle.array_memory.specs.Lengths.{RowsSized, Sized}
use Rattle.array_memory.specs.Memory.{Memory, with_array, no_memory}
use Rattle.cycle_place.specs.Places.{entry_at}
use Rattle.cycle_lookup.specs.Lookup.{entry_matches, counted_rows, flagged_rows, totalled_blocks, reset_rows, looked_up}
use Rattle.cycle.specs.Record.{next_entry, cycle_at, is_next}
use Rattle.cycle.specs.Calls.{State, zero_rows, cleared, fresh, started, start_call, step_matches, stepped_memory, stepped, step_call}
use Rattle.cycle.proofs.Asked.{start-asked, step-asked}

-- the tally of row i
abbrev pub tally_at : State → ℕ → Tally
tally_at st i = tally (get_or st.memory.counters i 0) (get_or st.memory.flags i 0)

-- each row's tally is that of the first c lookups of the schedule
abbrev pub Tallies : ℕ → Shape → State → ℕ → Type 0
Tallies z s st c =
    (i : ℕ) → i < s.rows
    → tally_at st i ≡ tally_run s (get_or st.memory.lines i 0) (row_at (columns s) st.memory.cells i) (take c (schedule z s)) fresh_tally

-- buffers of zeros have their lengths
zero-sized : (s : Shape) (mem : Memory) → RowsSized s (zero_rows s mem)
unfolding zero_rows
zero-sized s mem =
    record { counters = length-replicate s.rows 0; flags = length-replicate s.rows 0; totals = length-replicate (blocks s) 0 }

module _ (s : Shape) (st : State) where
  pub started-tallies : (z : ℕ) → Tallies z s (started s st z) 0
  unfolding started zero_rows
  started-tallies z i h = ap₂ tally (get_or-replicate s.rows i 0 0 h) (get_or-replicate s.rows i 0 0 h)

  -- the passes of a step, seen in one row
  stepped-tally :
      (i : ℕ) → i < s.rows
      → tally_at (stepped s st) i
      ≡ tally_step s (get_or st.memory.lines i 0) (row_at (columns s) st.memory.cells i) (next_entry s st.cycle) (tally_at st i)
  unfolding stepped stepped_memory looked_up tally_step reset_rows flagged_rows counted_rows entry_matches match_bytes row_match
  stepped-tally i h = simp get_or-tabulate

  pub stepped-tallies :
      Taken s → (z c : ℕ) → c < cycle_steps z s → st.cycle.skip ≡ z → st.cycle.count ≡ c → Tallies z s st c → Tallies z s (stepped s st) (suc c)
  unfolding stepped stepped_memory looked_up entry_at
  stepped-tallies t z c h own e tallies i l =
      let line : ℕ = get_or st.memory.lines i 0 in
      let row : List ℕ = row_at (columns s) st.memory.cells i in
      stepped-tally i l
      ∙ (λ k. tally_step s line row (entry_at (own k) s (e k)) (tallies i l k))
      ∙ sym (tally_run-take s line row (schedule z s) c (rw (schedule-length z s t) h) (within 0 0 0 0) fresh_tally)

  -- after the whole schedule a row's flag says whether its line is sound and its digit sums from z on are 0
  pub tallies-ended :
      Taken s → (z : ℕ) → Tallies z s st (cycle_steps z s) → (i : ℕ) → i < s.rows → length (row_at (columns s) st.memory.cells i) ≡ columns s
      → Below (levels s) (columns s) (row_at (columns s) st.memory.cells i)
      → get_or st.memory.flags i 0 ≡ cond (eqb (get_or st.memory.lines i 0) 0 && is_balanced_from z s (row_at (columns s) st.memory.cells i)) 0 1
  tallies-ended t z tallies i h sized below =
      let line : ℕ = get_or st.memory.lines i 0 in
      let row : List ℕ = row_at (columns s) st.memory.cells i in
      ap (λ l. l.flag)
      (tallies i h
      ∙ ap (λ es. tally_run s line row es fresh_tally) (take_all (cycle_steps z s) (schedule z s) (omega (arith, schedule-length z s t)))
      ∙ flag-test z s t row sized below line)

  pub stepped-cycle : (z c : ℕ) → st.cycle.skip ≡ z → st.cycle.count ≡ c → (stepped s st).cycle ≡ cycle_at z s (suc c)
  unfolding stepped
  stepped-cycle z c own e = ap₂ (λ z n. cycle_at z s (suc n)) own e

  module _ (lent : Sized s st.memory) where
    pub started-sized : (z : ℕ) → Sized s (started s st z).memory
    unfolding started zero_rows
    started-sized z = record { cells = lent.cells; lines = lent.lines; rows = zero-sized s st.memory }

    -- the totals are counted anew, or left
    totalled-length : (flags : List ℕ) → length flags ≡ s.rows → (b : Bool) → length (cond b (block_totals flags) st.memory.totals) ≡ blocks s
    unfolding block_totals
    totalled-length flags sized true = length-tabulate (blocks_of (length flags)) _ ∙ ap blocks_of sized
    totalled-length flags sized false = lent.rows.totals

    pub stepped-sized : Sized s (stepped s st).memory
    unfolding stepped stepped_memory looked_up reset_rows flagged_rows totalled_blocks
    stepped-sized =
        record {
          cells = lent.cells;
          lines = lent.lines;
          rows =
              record {
                counters = length-tabulate s.rows _;
                flags = length-tabulate s.rows _;
                totals = totalled-length _ (length-tabulate s.rows _) (next_entry s st.cycle).flags;
              };
        }

    -- a start is taken where it skips less than all digits
    pub start-state : Taken s → (z : ℕ) → (start_call s st z).state ≡ cond (ltb z s.digits) (started s st z) st
    unfolding start_call calling
    start-state t z = rw (start-asked s t st lent z) (both (ltb z s.digits))
      where
        both :
            (a : Bool)
            → (if_taken (cond a 0 15) (giving (accepted 0) [] (started s st z)) (giving (refused 0 (cond a 0 15)) [] st)).state
            ≡ cond a (started s st z) st
        both true = refl
        both false = refl

    pub start-done : Taken s → (z : ℕ) → z < s.digits → (start_call s st z).state ≡ started s st z
    start-done t z h = start-state t z ∙ ap (λ b. cond b (started s st z) st) (lt-ltb z s.digits h)

    -- a step is taken where the buffer has its length and the record a lookup to come
    pub step-state :
        Taken s → (matches : List ℕ)
        → (step_call s st matches).state ≡ cond (eqb (length matches) s.rows && is_next s st.cycle) (stepped s st) st
    unfolding step_call calling
    step-state t matches = rw (step-asked s t st lent matches) (both (eqb (length matches) s.rows) (is_next s st.cycle))
      where
        both :
            (a b : Bool)
            → (if_taken (cond (a && true) (cond b 0 9) 6) (giving (accepted 0) (step_matches s st) (stepped s st))
            (giving (refused 0 (cond (a && true) (cond b 0 9) 6)) matches st)).state
            ≡ cond (a && b) (stepped s st) st
        both true true = refl
        both true false = refl
        both false b = refl

-- the fresh array has buffers of their lengths
pub fresh-sized : (s : Shape) → Sized s (fresh s).memory
unfolding fresh cleared zero_rows
fresh-sized s =
    record {
      cells = length-replicate (cell_count s) 0;
      lines = length-replicate s.rows 0;
      rows = zero-sized s (with_array (replicate (cell_count s) 0) (replicate s.rows 0) no_memory);
    }
