-- The totals are the blocks' counts of flagged rows: so in the fresh array, and every call keeps it. Assumes nothing.
use mathlib.Core.Path.{◌≡◌, refl, sym, ◌∙◌, ap}
use mathlib.Core.Bool.{Bool, true, false}
use mathlib.Core.List.{List}
use Prim.Native.Nat.{ℕ, ◌+◌, ◌*◌}
use native.Mathlib.Omega.{arith}
use lib.ListN.{length, replicate, length-replicate}
use Rattle.parity.specs.Lists.{tabulate}
use Rattle.parity.specs.declared.Shape.{Shape}
use Rattle.parity.proofs.ListLaws.{length-tabulate, tabulate-same, tabulate-constant, same_at}
use Rattle.shape.proofs.Calling.{call-keeps}
use Rattle.array_memory.specs.Blocks.{blocks_of, block_at, count_flagged, block_totals}
use Rattle.array_memory.specs.Memory.{Memory, no_memory}
use Rattle.array_memory.proofs.BlockPlaces.{block-low, block-flag}
use Rattle.array_memory.proofs.FlagCounts.{zero-count}
use Rattle.array.specs.Calls.{row_written, ask_call, drifted, drift_call, line_set, line_call}
use Rattle.array_lookup.specs.Lookups.{lookup_call}
use Rattle.schedule.specs.Schedule.{Entry}
use Rattle.cycle_lookup.specs.Lookup.{flagged_rows, looked_up}
use Rattle.cycle_lookup.proofs.Passes.{flags-kept, totals-kept, totals-counted}
use Rattle.cycle.specs.Record.{next_entry}
use Rattle.cycle.specs.Calls.{State, zero_rows, cleared, fresh, clear_call, program_call, commit_call, started, start_call, stepped_memory, stepped, step_call}
use Rattle.call_lists.specs.Run.{Call, clear, start, program, ask, commit, drift, line, lookup, step, after, run}
use Rattle.call_lists.proofs.Runs.{run_holds}
use Rattle.panel.specs.Claims.{TotalsClaim}

-- what every call keeps of flags and totals
pub record Totalled (s : Shape) (flags totals : List ℕ) : Type 0 where
  pub sized : length flags ≡ s.rows
  pub counted : totals ≡ block_totals flags

-- without a flag every total is 0
zero-block : (m i : ℕ) → count_flagged (block_at (replicate m 0) i) ≡ 0
zero-block m i =
    zero-count (block_at (replicate m 0) i)
    (λ j h. block-flag (replicate m 0) i j (omega (arith, block-low (replicate m 0) i)) ∙ same_at {A = ℕ} m (i * 64 + j) 0)

zero-totals : (m : ℕ) → replicate (blocks_of m) 0 ≡ block_totals (replicate m 0)
unfolding block_totals
zero-totals m =
    sym
    (ap (λ n. tabulate (blocks_of n) (λ i. count_flagged (block_at (replicate m 0) i))) (length-replicate m 0)
    ∙ tabulate-same (blocks_of m) _ (λ i. 0) (λ i h. zero-block m i)
    ∙ tabulate-constant (blocks_of m) 0)

module _ (s : Shape) where
  -- that, of a memory and of a state
  abbrev Counted : Memory → Type 0
  Counted mem = Totalled s mem.flags mem.totals

  abbrev Holds : State → Type 0
  Holds st = Counted st.memory

  zeroed : (mem : Memory) → Counted (zero_rows s mem)
  unfolding zero_rows
  zeroed mem = record { sized = length-replicate s.rows 0; counted = zero-totals s.rows }

  counted-anew : (st : State) → Holds st → Counted (stepped_memory s st)
  unfolding stepped_memory looked_up flagged_rows
  counted-anew st t = record { sized = length-tabulate s.rows _; counted = go entry.flags refl }
    where
      entry : Entry
      entry = next_entry s st.cycle

      go : (b : Bool) → entry.flags ≡ b → (looked_up s entry st.memory).totals ≡ block_totals (looked_up s entry st.memory).flags
      go true e = sym (totals-counted s entry st.memory e refl refl)
      go false e = sym (totals-kept s entry st.memory e) ∙ t.counted ∙ ap block_totals (flags-kept s entry st.memory e t.sized)

  -- clear, start and step write flags and totals, and no other call does
  keeps : (st : State) (c : Call) → Holds st → Holds (after s st c)
  unfolding clear_call cleared program_call commit_call row_written start_call started ask_call drift_call drifted line_call line_set lookup_call step_call
      stepped
  keeps st clear t = call-keeps _ _ st _ Holds t (zeroed st.memory)
  keeps st (start z) t = call-keeps _ _ st _ Holds t (zeroed st.memory)
  keeps st (step matches) t = call-keeps _ _ st _ Holds t (counted-anew st t)
  keeps st (program row given) t = call-keeps _ _ st _ Holds t t
  keeps st (commit row finished) t = call-keeps _ _ st _ Holds t t
  keeps st (ask row given buffer) t = call-keeps _ _ st.memory _ Counted t t
  keeps st (drift row column level) t = call-keeps _ _ st.memory _ Counted t t
  keeps st (line row byte) t = call-keeps _ _ st.memory _ Counted t t
  keeps st (lookup inputs matches) t = call-keeps _ _ st.memory _ Counted t t

  -- after every list
  pub totalled : (calls : List Call) → Holds (run s calls)
  unfolding fresh cleared
  totalled = run_holds s Holds (zeroed no_memory) keeps

pub totals_claim : TotalsClaim
totals_claim s calls = (totalled s calls).counted
