-- `job::run::drift_cells` meets its contract: the cells are those that the drifts before drift i leave. Assumes nothing.
use mathlib.Core.Path.{◌≡◌, ◌∙◌, ap}
use mathlib.Core.List.{List, []}
use Prim.Native.Nat.{ℕ, ◌+◌, ◌-◌, ◌*◌}
use native.Mathlib.Numerals.{add-one}
use native.Mathlib.Omega.{arith}
use lib.ListN.{length}
use Rattle.parity.specs.declared.Shape.{Shape}
use Rattle.shape.specs.Answers.{Said, Result, outcome_says, giving}
use Rattle.array_memory.specs.Memory.{Memory, with_cells}
use Rattle.array.specs.Calls.{drift_call}
use Rattle.cycle.specs.Record.{idle}
use Rattle.cycle.specs.Calls.{state_of, on_memory}
use Rattle.job_parse.specs.Parse.{byte_at, two_at, job_shape, drift_count, drift_start, drift_row, drift_column, drift_level}
use Rattle.job.specs.Job.{after_drifts}
use Rattle.job.specs.Ready.{Ready}
use Rattle.job.proofs.TakenJob.{taken_job}
use Rattle.job.proofs.run.drift_cells.Invariants.{Drifted}
use Rattle.job.proofs.run.drift_cells.Goals as goal

-- one drift more, by the bytes at its place
next :
    (s : Shape) (input cells₀ cells last : List ℕ) (i at row column : ℕ) → s ≡ job_shape input → at ≡ drift_start input i → row ≡ two_at input at
    → column ≡ byte_at input (at + 2) → Drifted input cells₀ i cells
    → (said : Said ℕ)
    → ((mem : Memory) → drift_call s (with_cells cells mem) row column (byte_at input (at + 3)) ≡ giving said [] (with_cells last mem))
    → Drifted input cells₀ (i + 1) last
next s input cells₀ cells last i at row column same place r c before said gives mem =
    ap (λ n. after_drifts input n (state_of (with_cells cells₀ mem) idle)) (add-one i)
    ∙ ap (λ st. (on_memory (λ mem. drift_call (job_shape input) mem (drift_row input i) (drift_column input i) (drift_level input i)) st).state) (before mem)
    ∙ ap (λ (r : Result Memory). state_of r.state idle) (rw (r, c, place, same) at (gives mem))

-- where the drifts are: after two bytes with their number, and up to the end of the input
record Places (input : List ℕ) (start : ℕ) : Type 0 where
  starts : start ≡ drift_start input 0
  counts : two_at input (start - 2) ≡ drift_count input
  ends : length input ≡ drift_start input (drift_count input)

places : (input : List ℕ) (s : Shape) → Ready input s → Places input (13 + s.rows * s.width)
places input s ready =
    let starts : 13 + s.rows * s.width ≡ drift_start input 0 = omega (arith, ap (λ s. s.rows * s.width) ready.shape) in
    record { starts = starts; counts = ap (two_at input) (omega (arith, starts)); ends = (taken_job input ready.none).sized }

pub two_at-count-requires : goal.two_at-count-requires
two_at-count-requires c = omega (arith, places c.args.input.now c.args.shape c.requires)

pub two_at-row-requires : goal.two_at-row-requires
two_at-row-requires c = omega (arith, places c.args.input.now c.args.shape c.requires)

pub bounds-input-at : goal.bounds-input-at
bounds-input-at c = omega (arith, places c.args.input.now c.args.shape c.requires)

pub bounds-input-at-in-loop-i : goal.bounds-input-at-in-loop-i
bounds-input-at-in-loop-i c = omega (arith, places c.args.input.now c.args.shape c.requires)

pub loop-i-preserved : goal.loop-i-preserved
loop-i-preserved c =
    let args = c.args in
    let input = args.input.now in
    let s = args.shape in
    let i = c.loop-i.i in
    let call = c.drift in
    let place : 13 + s.rows * s.width + 4 * i ≡ drift_start input i = omega (arith, places input s c.requires) in
    next s input args.cells.now c.loop-i.cells _ i _ _ _ c.requires.shape place c.two_at-row.ensures c.from-column.ensures c.loop-i.invariant
    (outcome_says call.result) call.ensures
