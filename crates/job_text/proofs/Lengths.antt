-- How long the texts of a job are at most. Assumes nothing.
use mathlib.Core.Bool.{Bool, true, false, cond}
use mathlib.Core.List.{List, ◌++◌}
use Prim.Native.Nat.{ℕ, ◌+◌, ◌≤◌}
use native.Mathlib.Omega.{arith}
use lib.Dec.{eqb}
use lib.ListN.{length, length-append}
use Rattle.job_text.specs.Text.{decimal, ok_word, flagged_word, head_text, row_text}
use Rattle.job_text.proofs.Decimal.{decimal-short}

pub item-short : (word : List ℕ) (n : ℕ) → length (word ++ decimal n) ≤ length word + 20
item-short word n = omega (arith, length-append word (decimal n), decimal-short n)

pub head-short : (levels columns count : ℕ) → length (head_text levels columns count) ≤ 86
unfolding head_text
head-short levels columns count =
    simp length-append (omega (arith, decimal-short levels, decimal-short columns, decimal-short count))

word-short : (ok : Bool) → length (cond ok ok_word flagged_word) ≤ 9
word-short true = omega arith
word-short false = omega arith

pub row-short : (row flag : ℕ) → length (row_text row flag) ≤ 33
unfolding row_text
row-short row flag = simp length-append (omega (arith, decimal-short row, word-short (eqb flag 0)))
