-- Only serves the code's own contracts: the test that is next, and the buffers that a lookup is made on.
use Rattle.std.specs.Prelude.{◌≡◌, Bool, cond, List, ℕ, ◌^◌, ◌<◌, eqb, length, get_or}
use Rattle.parity.specs.Shape.{columns as columns_of}
use Rattle.parity.specs.Questions.{Taken}
use Rattle.parity.specs.declared.Shape.{Shape}
use Rattle.schedule.specs.Schedule.{Entry, opening}
use Rattle.array_memory.specs.Blocks.{blocks_of}
use Rattle.array_memory.specs.Lengths.{Sized}
use Rattle.array_memory.specs.Memory.{Memory}
use Rattle.cycle_passes.specs.Passes.{column_cells}
use Rattle.cycle_place.specs.Walk.{Stands, test_of}
use Rattle.cycle_place.specs.declared.Place.{Place}

-- a test's place on a shape taken, the number of columns, and whether rows are flagged after the test
pub record TestNext (z : ℕ) (s : Shape) (p : Place) (n : ℕ) (last : Bool) : Type 0 where
  pub taken : Taken s
  pub columns : n ≡ columns_of s
  pub stands : Stands z s p
  pub ends : last ≡ (test_of z s p).flags

-- buffers of their lengths, and m match bytes
pub record RowsLent (s : Shape) (mem : Memory) (bytes : ℕ) : Type 0 where
  pub memory : Sized s mem
  pub matches : bytes ≡ s.rows

-- a column's cells held in the place of the match bytes: where it is the test's they are its cells; with ρ^s, and counters below ρ
pub record Holding (s : Shape) (p : Place) (held power : ℕ) (cell_bytes counter_bytes column_bytes : List ℕ) : Type 0 where
  pub column : p.column ≡ held → column_bytes ≡ column_cells (columns_of s) p.column cell_bytes (length column_bytes)
  pub unit : power ≡ s.radix ^ p.digit
  pub below : (i : ℕ) → i < length counter_bytes → get_or counter_bytes i 0 < s.radix

-- as many flags as counters, and the totals of their blocks
pub record FlagsCounted (counter_count flag_count total_count : ℕ) : Type 0 where
  pub flags : counter_count ≡ flag_count
  pub totals : total_count ≡ blocks_of flag_count

-- the opening to which a row with a sound line gives this byte, 0 or 1
abbrev pub opening_of : Shape → ℕ → Entry
opening_of s byte = opening byte (cond (eqb byte 0) s.digits 0) (cond (eqb byte 0) 1 0)

-- what an opening is lent: as many flags and match bytes as lines, and the totals of their blocks
pub record FlagsLent (line_count flag_count total_count match_count : ℕ) : Type 0 where
  pub matches : line_count ≡ match_count
  pub flags : line_count ≡ flag_count
  pub totals : total_count ≡ blocks_of flag_count
