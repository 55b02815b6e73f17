-- Only serves the code's own contracts: a record with lookups to come, what a test gives, and what is held from one test to the next.
use Rattle.std.specs.Prelude.{◌≡◌, List, ℕ, ◌≤◌, ◌<◌, length, get_or}
use Rattle.parity.specs.Matrix.{cycle_steps}
use Rattle.parity.specs.Shape.{columns}
use Rattle.parity.specs.declared.Shape.{Shape}
use Rattle.shape.specs.Answers.{Result, accepted, giving}
use Rattle.array_memory.specs.Memory.{Memory}
use Rattle.cycle_place.specs.Walk.{test_of}
use Rattle.cycle_place.specs.declared.Place.{Place}
use Rattle.cycle_lookup.specs.Lookup.{entry_matches}
use Rattle.cycle.specs.Calls.{State, state_of}
use Rattle.cycle.specs.Record.{cycle_at}
use Rattle.cycle.specs.declared.Cycle.{Cycle}
use Rattle.cycle_passes.specs.Passes.{column_cells}

-- a cycle's record after so many lookups at least, and before its end; after two its next lookup is a test
pub record LookupsLeft (s : Shape) (least : ℕ) (cycle : Cycle) : Type 0 where
  pub partial : cycle.skip < s.digits
  pub made : least ≤ cycle.count
  pub more : cycle.count < cycle_steps cycle.skip s
  pub stands : cycle ≡ cycle_at cycle.skip s cycle.count

-- what the test at a place gives that leaves this memory and this record
abbrev pub tested_at : ℕ → Shape → Place → Memory → Cycle → Result State
tested_at z s p mem cycle = giving (accepted 0) (entry_matches s (test_of z s p) mem) (state_of mem cycle)

-- the cells of column j in the place of the match bytes, and counters below ρ
pub record ColumnHeld (s : Shape) (j : ℕ) (cell_bytes counter_bytes column_bytes : List ℕ) : Type 0 where
  pub column : column_bytes ≡ column_cells (columns s) j cell_bytes (length column_bytes)
  pub below : (i : ℕ) → i < length counter_bytes → get_or counter_bytes i 0 < s.radix
