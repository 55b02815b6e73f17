-- `job::run::run_calls` meets its contract: each call leaves what the next one finds, and all of them what the job runs. Assumes nothing.
use mathlib.Core.Path.{sym, ◌∙◌, subst}
use Rattle.parity.specs.Questions.{Taken}
use Rattle.array_memory.specs.Lengths.{Sized}
use Rattle.array_memory.specs.Memory.{Memory, with_cells, with_lines, with_rows, with_all, no_memory}
use Rattle.cycle.specs.Record.{idle}
use Rattle.cycle.specs.Calls.{state_of}
use Rattle.job.proofs.TakenJob.{taken_job}
use Rattle.job.proofs.JobCalls.{clear-left, job-ended}
use Rattle.job.proofs.run.run_calls.Goals as goal

-- all calls made
pub returns : goal.returns
returns c =
    let args = c.args in
    let s = args.shape in
    let ready = c.requires.ready in
    let memory = c.requires.rows_lent.memory in
    let clear = c.clear in
    let program = c.program_rows in
    let drifts = c.drift_cells in
    let kept = clear.auto in
    let taken : Taken s = subst (λ s. Taken s) (sym ready.shape) (taken_job args.input.now ready.none).taken in
    -- what the clear leaves beside the cells
    let others : Memory = with_lines clear.new.lines (with_rows clear.new.counters clear.new.flags clear.new.totals no_memory) in
    let first : Memory = with_cells clear.new.cells others in
    let buffers : Memory = with_all args.cells.now args.lines.now args.counters.now args.flags.now args.totals.now no_memory in
    -- the buffers that the cycle finds are as long as they were
    let sized : Sized s (with_cells drifts.new.cells others) =
    record {
      cells = drifts.auto.cells ∙ program.auto.cells ∙ kept.cells ∙ memory.cells;
      lines = kept.lines ∙ memory.lines;
      rows =
          record {
            counters = kept.counters ∙ memory.rows.counters;
            flags = kept.flags ∙ memory.rows.flags;
            totals = kept.totals ∙ memory.rows.totals;
          };
    } in
    job-ended args.input.now s ready.shape taken first (with_cells program.new.cells others) (with_cells drifts.new.cells others)
    (clear-left s taken (state_of buffers idle) memory clear.result first (clear.ensures no_memory))
    (program.ensures others) (drifts.ensures others) sized args.matches.now c.requires.rows_lent.matches _ (c.run_cycle.ensures no_memory)
