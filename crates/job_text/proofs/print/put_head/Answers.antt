-- `job_text::print::put_head` meets its contract: three words, each with its number, and the end of the line, one after another. Assumes nothing.
use mathlib.Core.List.{List, ◌++◌, append_assoc}
use Prim.Native.Nat.{ℕ, ◌≤◌}
use native.Mathlib.Omega.{arith}
use lib.ListN.{length}
use Rattle.job_text.specs.Text.{decimal, columns_word, lookups_word, head_text}
use Rattle.job_text.specs.Written.{Wrote}
use Rattle.job_text.proofs.Decimal.{decimal-short}
use Rattle.job_text.proofs.Written.{wrote-append}
use Rattle.job_text.proofs.print.put_head.Goals as goal

-- a word and a number after what stands
wrote-item :
    {mid end : ℕ} {a out now now' : List ℕ} (word : List ℕ) (number : ℕ) → mid ≤ length out → Wrote 0 a out mid now
    → Wrote mid (word ++ decimal number) now end now' → Wrote 0 (a ++ word ++ decimal number) out end now'
wrote-item word number fits first second = rw append_assoc (wrote-append fits first second)

pub returns : goal.returns
unfolding head_text
returns c =
    let levels = decimal-short c.args.levels in
    let columns = decimal-short c.args.columns in
    let count = decimal-short c.args.count in
    wrote-append (omega arith)
    (wrote-item lookups_word c.args.count (omega arith)
    (wrote-item columns_word c.args.columns (omega arith) c.put_item-first.ensures c.put_item-second.ensures)
    c.put_item-third.ensures)
    c.put.ensures
