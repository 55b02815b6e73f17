-- `job::run::program_rows` meets its contract: the cells are those after programming the rows before `row`, on an idle record. Assumes nothing.
use mathlib.Core.Path.{◌≡◌, ◌∙◌, ap}
use mathlib.Core.List.{List, []}
use Prim.Native.Nat.{ℕ, ◌+◌, ◌-◌, ◌*◌, ◌≤◌, ◌<◌}
use native.Mathlib.Numerals.{add-one}
use native.Mathlib.Omega.{arith}
use lib.ListN.{length, take, drop}
use Rattle.parity.specs.declared.Shape.{Shape}
use Rattle.array_memory.specs.Memory.{Memory, with_cells}
use Rattle.array_memory.proofs.RowPlaces.{row_fits}
use Rattle.cycle.specs.Record.{idle}
use Rattle.cycle.specs.Calls.{state_of, program_call}
use Rattle.cycle.specs.Methods.{changing}
use Rattle.cycle.specs.declared.Changed.{Changed}
use Rattle.job_parse.specs.Parse.{job_shape, row_levels, level_count, most_bytes}
use Rattle.job.specs.Job.{after_programs}
use Rattle.job.specs.Ready.{Ready}
use Rattle.job.proofs.TakenJob.{taken_job}
use Rattle.job.proofs.JobCalls.{program-left}
use Rattle.job.proofs.run.program_rows.Invariants.{Programmed}
use Rattle.job.proofs.run.program_rows.Goals as goal

-- one row more
next :
    (s : Shape) (input cells₀ cells last : List ℕ) (i : ℕ) (given : List ℕ) → s ≡ job_shape input → given ≡ row_levels input i
    → Programmed input cells₀ i cells
    → (r : Changed) → ((mem : Memory) → program_call s (state_of (with_cells cells mem) idle) i given ≡ changing r [] (with_cells last mem))
    → Programmed input cells₀ (i + 1) last
next s input cells₀ cells last i given same levels before r gives mem =
    ap (λ n. after_programs input n (state_of (with_cells cells₀ mem) idle)) (add-one i)
    ∙ ap (λ st. (program_call (job_shape input) st i (row_levels input i)).state) (before mem)
    ∙ program-left (job_shape input) (with_cells cells mem) (with_cells last mem) i (row_levels input i) r (rw (same, levels) at (gives mem))

-- the levels of a row are within the input
ends :
    (input : List ℕ) (s : Shape) (row : ℕ) → Ready input s → row < s.rows
    → (11 + row * s.width + s.width ≤ length input) × (length input ≤ most_bytes)
ends input s row ready h =
    let job = taken_job input ready.none in
    let same : s.rows * s.width ≡ level_count input = ap (λ s. s.rows * s.width) ready.shape in
    (omega (arith, row_fits row s.rows s.width h, job.sized), job.short)

pub slice_bounds-program-end : goal.slice_bounds-program-end
slice_bounds-program-end c = omega (arith, ends c.args.input.now c.args.shape c.loop-row.row c.requires c.loop-row-test.true)

pub loop-row-preserved : goal.loop-row-preserved
loop-row-preserved c =
    let args = c.args in
    let s = args.shape in
    let input = args.input.now in
    let row = c.loop-row.row in
    let same = c.requires.shape in
    let start = 11 + row * s.width in
    let count : start + s.width - start ≡ s.width = omega arith in
    let given : take (start + s.width - start) (drop start input) ≡ row_levels input row
    = ap (λ n. take n (drop start input)) count ∙ ap (λ s. take s.width (drop (11 + row * s.width) input)) same in
    next s input args.cells.now c.loop-row.cells _ row _ same given c.loop-row.invariant c.program.result c.program.ensures
