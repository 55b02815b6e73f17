-- `job_text::print::put_row` meets its contract: the word for the flag is written after the row's number. Assumes nothing.
use mathlib.Core.Path.{◌≡◌}
use mathlib.Core.Bool.{cond}
use mathlib.Core.List.{List, ◌++◌}
use Prim.Native.Nat.{ℕ, ◌+◌, ◌≤◌}
use native.Mathlib.Omega.{arith}
use lib.Dec.{eqb}
use lib.ListN.{length}
use Rattle.job_text.specs.Text.{decimal, row_word, ok_word, flagged_word, row_text}
use Rattle.job_text.specs.Written.{Wrote}
use Rattle.job_text.proofs.Lengths.{item-short}
use Rattle.job_text.proofs.Written.{wrote-append}
use Rattle.job_text.proofs.print.put_row.Goals as goal

-- the word and the row's number, and then the line's last word
row_wrote :
    (at row flag : ℕ) {word out : List ℕ} {mid end : ℕ} {now now' : List ℕ} → at + 40 ≤ length out
    → Wrote at (row_word ++ decimal row) out mid now → word ≡ cond (eqb flag 0) ok_word flagged_word → Wrote mid word now end now'
    → Wrote at (row_text row flag) out end now'
unfolding row_text
row_wrote at row flag fits item e last = rw e at (wrote-append (omega (arith, item-short row_word row)) item last)

pub returns : goal.returns
returns c = row_wrote c.args.at c.args.row c.args.flag c.requires c.put_item-end.ensures c.flag_word.ensures c.put.ensures
