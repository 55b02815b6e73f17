-- `cycle_passes::rows::reduce_rows` meets its contract: the counters that are passed are their remainders. Assumes nothing.
use Rattle.cycle_passes.specs.Passes.{reduced_byte}
use Rattle.cycle_passes.proofs.Pass.{Pass}
use Rattle.cycle_passes.proofs.rows.reduce_rows.Given as goal

abbrev pub invariant-loop-counter : goal.invariant-loop-counter
invariant-loop-counter l = Pass (reduced_byte l.fn.radix l.initial.counters) l.initial.counters l.counter-index l.counters
