-- `job_text::print::put_rows` meets its contract: the lines of the rows passed stand. Assumes nothing.
use mathlib.Core.Path.{◌≡◌}
use Prim.Native.Nat.{◌+◌, ◌*◌, ◌≤◌}
use lib.ListN.{length}
use Rattle.job_text.specs.Text.{rows_text}
use Rattle.job_text.specs.Written.{Wrote}
use Rattle.job_text.proofs.print.put_rows.Given as goal

abbrev pub invariant-loop-row : goal.invariant-loop-row
invariant-loop-row l = record {
  place : l.end ≤ l.at + 40 * l.row;
  sized : length l.out ≡ length l.initial.out;
  wrote : Wrote l.at (rows_text l.row l.flags) l.initial.out l.end l.out;
}
