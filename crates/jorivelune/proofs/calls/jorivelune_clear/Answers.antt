-- `jorivelune::calls::jorivelune_clear` meets its contract: the record is read, the method on it returns, and `store` leaves what the return says.
-- Assumes nothing.
use Rattle.array_memory.specs.Memory.{with_all}
use Rattle.cycle.specs.Calls.{clear_call}
use Rattle.jorivelune.proofs.Numbers.{stores}
use Rattle.jorivelune.proofs.calls.jorivelune_clear.Goals as goal

-- what is stored
pub returns : goal.returns
returns c =
    let args = c.args in
    λ mem. stores (clear_call args.shape)
    (with_all args.cells.now args.lines.now args.counters.now args.flags.now args.totals.now mem) args.words.now
    c.clear.result c.cycle_of-cycle.ensures (c.clear.ensures mem) (c.store.ensures.answered, c.store.ensures.recorded)
