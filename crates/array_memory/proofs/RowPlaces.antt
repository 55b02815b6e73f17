-- Cells that lie row after row: how many a shape taken has, and where a row of them lies. Assumes nothing.
use mathlib.Core.Path.{◌≡◌, sym, ◌∙◌, ap}
use mathlib.Core.List.{List, append_assoc}
use Prim.Native.Nat.{ℕ, ◌+◌, ◌-◌, ◌*◌, ◌≤◌, ◌<◌}
use native.Mathlib.Nat.{mul-le-mul, mul-le-mul_right, suc-mul, add-sub_cancel_left}
use native.Mathlib.Omega.{arith}
use lib.ListN.{length, get_or, take, drop, length-drop}
use lib.Seq.{get_or-take, get_or-drop, drop-drop, length-take-le, take-take}
use borrow.Rule.Slice.PartMut.{mid_of, put_mid}
use Rattle.parity.specs.Shape.{columns, cell_count}
use Rattle.parity.specs.Questions.{Taken}
use Rattle.parity.specs.declared.Shape.{Shape}
use Rattle.parity.proofs.Taken.{limits}
use Rattle.parity.proofs.Sizes.{columns-high}
use Rattle.array_memory.specs.Geometry.{row_at, with_row}

-- the end of a row is within the cells
pub row_fits : (row m n : ℕ) → row < m → row * n + n ≤ m * n
row_fits row m n h = omega (arith, mul-le-mul_right n h, suc-mul row n)

-- m × n is far below what a number of the machine holds
pub cells-high : (s : Shape) → Taken s → s.rows * columns s ≤ 1044480
cells-high s t = mul-le-mul (limits s t).rows_high (columns-high s t)

-- cell j of row i
pub row-cell : (s : Shape) (cells : List ℕ) (i j : ℕ) → j < columns s → get_or (row_at (columns s) cells i) j 0 ≡ get_or cells (i * columns s + j) 0
unfolding row_at
row-cell s cells i j h = rw (get_or-take, get_or-drop)

-- ---- row i: how long it is, and the part of the cells that it is
pub row-whole : (cells : List ℕ) (n i : ℕ) → i * n + n ≤ length cells → length (row_at n cells i) ≡ n
unfolding row_at
row-whole cells n i h = length-take-le n (drop (i * n) cells) (omega (arith, length-drop (i * n) cells))

pub row-length : (cells : List ℕ) (m n i : ℕ) → length cells ≡ m * n → i < m → length (row_at n cells i) ≡ n
row-length cells m n i counted h = row-whole cells n i (omega (arith, row_fits i m n h))

-- lent as `cells[start..end]`, from i × n to n places later, and the cells when it is back
module _ (cells : List ℕ) (i n columns : ℕ) (e : columns ≡ n) where
  pub row-part : mid_of (i * columns) (i * columns + columns - i * columns) cells ≡ row_at n cells i
  unfolding row_at
  row-part = rw (add-sub_cancel_left (i * columns) columns, e)

  pub row_back : (new : List ℕ) → put_mid (i * columns) (i * columns + columns - i * columns) cells new ≡ with_row n cells i new
  unfolding with_row
  row_back new = rw (add-sub_cancel_left (i * columns) columns, drop-drop columns (i * columns) cells, e, append_assoc, suc-mul)

-- the first k cells of row i, lent as `cells[start..end]` from i × n on
pub rule-part :
    (cells : List ℕ) (i n k columns : ℕ) → columns ≡ n → k ≤ n
    → mid_of (i * columns) (i * columns + k - i * columns) cells ≡ take k (row_at n cells i)
unfolding row_at
rule-part cells i n k columns e h = rw (add-sub_cancel_left (i * columns) k, e) (sym (take-take k n (drop (i * n) cells) h))

module _ (s : Shape) (cells : List ℕ) (i : ℕ) (counted : length cells ≡ cell_count s) (h : i < s.rows) where
  pub row_sized : length (row_at (columns s) cells i) ≡ columns s
  unfolding cell_count
  row_sized = row-length cells s.rows (columns s) i counted h

  pub part-sized : (n : ℕ) → n ≡ columns s → length (mid_of (i * n) (i * n + n - i * n) cells) ≡ columns s
  part-sized n e = ap length (row-part cells i (columns s) n e) ∙ row_sized
