-- `cycle_passes::rows::take_down` meets its contract: the bytes that are passed are the column's, and the next cell is that of the next row.
-- Assumes nothing.
use mathlib.Core.Path.{◌≡◌}
use Prim.Native.Nat.{◌+◌, ◌*◌}
use Rattle.cycle_passes.specs.Passes.{column_cell}
use Rattle.cycle_passes.proofs.Pass.{Pass}
use Rattle.cycle_passes.proofs.rows.take_down.Given as goal

abbrev pub invariant-loop-byte : goal.invariant-loop-byte
invariant-loop-byte l = record {
  place : l.at ≡ l.byte-index * l.columns + l.column;
  taken : Pass (column_cell l.columns l.column l.cells) l.initial.bytes l.byte-index l.bytes;
}
