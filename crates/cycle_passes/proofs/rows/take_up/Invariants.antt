-- `cycle_passes::rows::take_up` meets its contract: the bytes from i on are the column's, and the cell before the next is that of row i. Assumes nothing.
use mathlib.Core.Path.{◌≡◌}
use Prim.Native.Nat.{◌+◌, ◌*◌}
use Rattle.cycle_passes.specs.Passes.{column_cell}
use Rattle.cycle_passes.proofs.Pass.{PassBack}
use Rattle.cycle_passes.proofs.rows.take_up.Given as goal

abbrev pub invariant-loop-i : goal.invariant-loop-i
invariant-loop-i l = record {
  place : l.at ≡ l.i * l.columns + l.column;
  taken : PassBack (column_cell l.columns l.column l.cells) l.initial.bytes l.i l.bytes;
}
