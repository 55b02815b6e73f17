-- Document 01, "Schedule": one lookup of the schedule on all rows, in its passes.
use Rattle.std.specs.Prelude.{cond, List, ℕ, get_or}
use Rattle.parity.specs.Lists.{tabulate}
use Rattle.parity.specs.Shape.{levels, columns}
use Rattle.parity.specs.declared.Shape.{Shape}
use Rattle.schedule.specs.Schedule.{Entry, test_vector}
use Rattle.schedule.specs.Tally.{counted, flagged, reset}
use Rattle.array_memory.specs.Blocks.{block_totals}
use Rattle.array_memory.specs.Geometry.{match_bytes}
use Rattle.array_memory.specs.Memory.{Memory, with_rows}

-- The match bytes: the entry's vector is fed to all rows.
unfoldable pub entry_matches : Shape → Entry → Memory → List ℕ
entry_matches s e mem = match_bytes (levels s) s.rows (columns s) (test_vector s e) mem.cells mem.lines

-- But at an opening, each is added to its row's counter mod ρ, any byte found there by its remainder ..
unfoldable pub counted_rows : Shape → Entry → List ℕ → List ℕ → List ℕ
counted_rows s e counters matches = tabulate s.rows (λ i. counted e.kind s.radix (get_or counters i 0) (get_or matches i 0))

-- .. at an opening rows are flagged whose match byte is not that of a sound line, and at the end of each s rows whose counter isn't 0 ..
unfoldable pub flagged_rows : Shape → Entry → List ℕ → List ℕ → List ℕ → List ℕ
flagged_rows s e matches counters flags = tabulate s.rows (λ i. flagged e (get_or matches i 0) (get_or counters i 0) (get_or flags i 0))

-- .. where rows are flagged, each block's flagged rows are counted anew ..
unfoldable pub totalled_blocks : Entry → List ℕ → List ℕ → List ℕ
totalled_blocks e flags totals = cond e.flags (block_totals flags) totals

-- .. and counters return to 0 after the last s of an ℓ.
unfoldable pub reset_rows : Shape → Entry → List ℕ → List ℕ
reset_rows s e counters = tabulate s.rows (λ i. reset e (get_or counters i 0))

-- the memory after an entry's lookup
unfoldable pub looked_up : Shape → Entry → Memory → Memory
looked_up s e mem =
    let matches = entry_matches s e mem in
    let counters = counted_rows s e mem.counters matches in
    let flags = flagged_rows s e matches counters mem.flags in
    with_rows (reset_rows s e counters) flags (totalled_blocks e flags mem.totals) mem
