-- `job_text::print::put_rows` meets its contract: the lines of the rows passed stand. Assumes nothing.
use mathlib.Core.Path.{◌≡◌, refl}
use mathlib.Core.List.{List, ◌++◌}
use Prim.Native.Nat.{ℕ, ◌+◌}
use native.Mathlib.Numerals.{add-one}
use native.Mathlib.Omega.{arith}
use lib.ListN.{get_or}
use Rattle.job_text.specs.Text.{row_text, rows_text}
use Rattle.job_text.proofs.Lengths.{row-short}
use Rattle.job_text.proofs.Written.{wrote_none, wrote-append}
use Rattle.job_text.proofs.print.put_rows.Goals as goal

rows_next : (row : ℕ) (flags : List ℕ) → rows_text (row + 1) flags ≡ rows_text row flags ++ row_text row (get_or flags row 0)
unfolding rows_text
rows_next row flags = rw add-one

pub loop-row-init : goal.loop-row-init
unfolding rows_text
loop-row-init c = record { place = omega arith; sized = refl; wrote = wrote_none c.args.at c.args.out.now }

pub loop-row-preserved : goal.loop-row-preserved
loop-row-preserved c =
    let turn = c.loop-row in
    let line = c.put_row-end in
    let short = row-short turn.row (get_or c.args.flags.now turn.row 0) in
    record {
      place = omega arith;
      sized = omega arith;
      wrote = rw rows_next (wrote-append (omega arith) turn.invariant.wrote line.ensures);
    }
