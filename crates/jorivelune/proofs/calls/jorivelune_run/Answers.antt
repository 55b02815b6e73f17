-- `jorivelune::calls::jorivelune_run` meets its contract: the record is read, the method on it returns, and `store` leaves what the return says.
-- Assumes nothing.
use Rattle.array_memory.specs.Memory.{with_all}
use Rattle.cycle_run.specs.Cycles.{cycle_call}
use Rattle.jorivelune.proofs.Numbers.{stores}
use Rattle.jorivelune.proofs.calls.jorivelune_run.Goals as goal

-- what is stored
pub returns : goal.returns
returns c =
    let args = c.args in
    λ mem. stores (λ st. cycle_call args.shape st args.skip args.matches.now)
    (with_all args.cells.now args.lines.now args.counters.now args.flags.now args.totals.now mem) args.words.now
    c.run_cycle.result
    c.cycle_of-cycle.ensures (c.run_cycle.ensures mem) (c.store.ensures.answered, c.store.ensures.recorded)
