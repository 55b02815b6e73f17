-- `job::run::program_rows` meets its contract: the cells are those after programming the rows before `row`, on an idle record. Assumes nothing.
use mathlib.Core.Path.{◌≡◌}
use mathlib.Core.List.{List}
use Prim.Native.Nat.{ℕ}
use Rattle.array_memory.specs.Memory.{Memory, with_cells}
use Rattle.cycle.specs.Record.{idle}
use Rattle.cycle.specs.Calls.{state_of}
use Rattle.job.specs.Job.{after_programs}
use Rattle.job.proofs.run.program_rows.Given as goal

-- programming the first i rows leads from the cells that were lent to the cells in hand
abbrev pub Programmed : List ℕ → List ℕ → ℕ → List ℕ → Type 0
Programmed input cells₀ i cells =
    (mem : Memory) → after_programs input i (state_of (with_cells cells₀ mem) idle) ≡ state_of (with_cells cells mem) idle

abbrev pub invariant-loop-row : goal.invariant-loop-row
invariant-loop-row l = Programmed l.input l.initial.cells l.row l.cells
