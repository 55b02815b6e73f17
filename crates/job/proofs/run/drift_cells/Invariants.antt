-- `job::run::drift_cells` meets its contract: the cells are those that the drifts before drift i leave. Assumes nothing.
use mathlib.Core.Path.{◌≡◌}
use mathlib.Core.List.{List}
use Prim.Native.Nat.{ℕ}
use Rattle.array_memory.specs.Memory.{Memory, with_cells}
use Rattle.cycle.specs.Record.{idle}
use Rattle.cycle.specs.Calls.{state_of}
use Rattle.job.specs.Job.{after_drifts}
use Rattle.job.proofs.run.drift_cells.Given as goal

-- the first i drifts lead from the cells that were lent to the cells in hand
abbrev pub Drifted : List ℕ → List ℕ → ℕ → List ℕ → Type 0
Drifted input cells₀ i cells =
    (mem : Memory) → after_drifts input i (state_of (with_cells cells₀ mem) idle) ≡ state_of (with_cells cells mem) idle

abbrev pub invariant-loop-i : goal.invariant-loop-i
invariant-loop-i l = Drifted l.input l.initial.cells l.i l.cells
