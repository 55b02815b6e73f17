-- `cycle_passes::rows::count_column` meets its contract: the first i counters have their rows' match bytes added. Assumes nothing.
use mathlib.Core.Path.{refl}
use native.Mathlib.Omega.{arith}
use Rattle.acam.proofs.CellMatch.{cell-low}
use Rattle.cycle_passes.proofs.Counting.{counted-next}
use Rattle.cycle_passes.proofs.rows.count_column.Goals as goal

pub add_match-requires-clause-byte_bound : goal.add_match-requires-clause-byte_bound
add_match-requires-clause-byte_bound c = grind (arith, cell-low)

pub loop-i-preserved : goal.loop-i-preserved
loop-i-preserved c =
    let args = c.args in
    counted-next args.radix args.input args.lines.now args.column.now c.loop-i.invariant refl c.add_match.ensures c.cell_match-byte.ensures
    (omega arith) (omega arith)
