-- Document 01, "Calls on one array", with the totals of document 02's Card 1 and the lines of its Card 4: the lent memory.
use Rattle.std.specs.Prelude.{List, [], ℕ}

-- cells (m × n bytes, row after row), lines (m bytes: 0 is a sound match line, 2 a shorted one, any other a dead one), counters (m bytes), flags (m bytes),
-- and totals of flagged rows (a byte for each block of 64 rows)
pub record Memory : Type 0 where
  pub cells : List ℕ
  pub lines : List ℕ
  pub counters : List ℕ
  pub flags : List ℕ
  pub totals : List ℕ

-- A memory is made from another by these alone: a further buffer is a further line here, and stays as it is in every call that does not name it.
abbrev pub with_cells : List ℕ → Memory → Memory
with_cells cells mem = record { cells = cells; lines = mem.lines; counters = mem.counters; flags = mem.flags; totals = mem.totals }

abbrev pub with_lines : List ℕ → Memory → Memory
with_lines lines mem = record { cells = mem.cells; lines = lines; counters = mem.counters; flags = mem.flags; totals = mem.totals }

abbrev pub with_counters : List ℕ → Memory → Memory
with_counters counters mem = record { cells = mem.cells; lines = mem.lines; counters = counters; flags = mem.flags; totals = mem.totals }

abbrev pub with_flags : List ℕ → Memory → Memory
with_flags flags mem = record { cells = mem.cells; lines = mem.lines; counters = mem.counters; flags = flags; totals = mem.totals }

abbrev pub with_totals : List ℕ → Memory → Memory
with_totals totals mem = record { cells = mem.cells; lines = mem.lines; counters = mem.counters; flags = mem.flags; totals = totals }

-- what a lookup reads: the cells and the lines
abbrev pub with_array : List ℕ → List ℕ → Memory → Memory
with_array cells lines mem = with_cells cells (with_lines lines mem)

-- what the panel reads: the flags and their totals
abbrev pub with_flagged : List ℕ → List ℕ → Memory → Memory
with_flagged flags totals mem = with_flags flags (with_totals totals mem)

-- what a start writes: counters, flags and totals
abbrev pub with_rows : List ℕ → List ℕ → List ℕ → Memory → Memory
with_rows counters flags totals mem = with_counters counters (with_flagged flags totals mem)

-- all buffers
abbrev pub with_all : List ℕ → List ℕ → List ℕ → List ℕ → List ℕ → Memory → Memory
with_all cells lines counters flags totals mem = with_array cells lines (with_rows counters flags totals mem)

-- no buffers
abbrev pub no_memory : Memory
no_memory = record { cells = []; lines = []; counters = []; flags = []; totals = [] }
