-- `jorivelune::calls::jorivelune_step` meets its contract: the record is read, the method on it returns, and `store` leaves what the return says.
-- Assumes nothing.
use Rattle.array_memory.specs.Memory.{with_all}
use Rattle.cycle.specs.Calls.{step_call}
use Rattle.jorivelune.proofs.Numbers.{stores}
use Rattle.jorivelune.proofs.calls.jorivelune_step.Goals as goal

-- what is stored
pub returns : goal.returns
returns c =
    let args = c.args in
    λ mem. stores (λ st. step_call args.shape st args.matches.now)
    (with_all args.cells.now args.lines.now args.counters.now args.flags.now args.totals.now mem) args.words.now c.step.result
    c.cycle_of-cycle.ensures (c.step.ensures mem) (c.store.ensures.answered, c.store.ensures.recorded)
