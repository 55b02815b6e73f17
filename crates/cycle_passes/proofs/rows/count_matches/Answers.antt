-- `cycle_passes::rows::count_matches` meets its contract: the first i rows have their match bytes and counters. Assumes nothing.
use mathlib.Core.Path.{◌≡◌, refl}
use native.Mathlib.Omega.{arith}
use Rattle.acam.proofs.CellMatch.{cell-low}
use Rattle.cycle_passes.specs.Passes.{column_match}
use Rattle.cycle_passes.proofs.Counting.{counted-next}
use Rattle.cycle_passes.proofs.Pass.{pass-here, pass-next}
use Rattle.cycle_passes.proofs.rows.count_matches.Goals as goal

pub add_match-requires-clause-byte_bound : goal.add_match-requires-clause-byte_bound
add_match-requires-clause-byte_bound c = grind (arith, cell-low)

pub loop-i-preserved : goal.loop-i-preserved
loop-i-preserved c =
    let loop = c.loop-i in
    let args = c.args in
    let here = pass-here loop.invariant.matched in
    let byte : c.cell_match-byte.result ≡ column_match args.input args.lines.now args.matches.now loop.i = grind arith in
    record {
      matched = pass-next loop.invariant.matched refl byte (omega arith);
      counted = counted-next args.radix args.input args.lines.now args.matches.now loop.invariant.counted refl c.add_match.ensures byte (omega arith)
          (omega arith);
    }
