-- Flags that lie block after block: how many blocks there are, and the part of the flags that a block is. Assumes nothing.
use mathlib.Core.Path.{◌≡◌, refl, sym, ◌∙◌, ap}
use mathlib.Core.Bool.{Bool, true, false}
use mathlib.Core.List.{List}
use Prim.Native.Nat.{ℕ, ◌+◌, ◌-◌, ◌*◌, ◌≤◌, ◌<◌}
use native.Mathlib.Omega.{arith}
use lib.Dec.{leb}
use lib.ListN.{length, get_or, take, drop, length-take, length-drop}
use lib.Seq.{take_all, get_or-take, get_or-drop}
use borrow.Author.Tests.{leb-true, leb-false}
use borrow.Rule.Slice.PartMut.{mid_of}
use Rattle.array_memory.specs.Blocks.{blocks_of, block_end, block_at}

-- block i starts before the end of the rows
pub block-starts : (i m : ℕ) → i < blocks_of m → i * 64 < m
unfolding blocks_of
block-starts i m h = omega arith

-- .. and the last ends there
pub blocks-reach : (m : ℕ) → m ≤ blocks_of m * 64
unfolding blocks_of
blocks-reach m = omega arith

-- the largest array has 64 blocks
pub blocks-few : (m : ℕ) → m ≤ 4096 → blocks_of m ≤ 64
unfolding blocks_of
blocks-few m h = omega arith

pub block-low : (flags : List ℕ) (i : ℕ) → length (block_at flags i) ≤ 64
unfolding block_at
block-low flags i = omega (arith, length-take 64 (drop (i * 64) flags))

-- a flag of block i
pub block-flag : (flags : List ℕ) (i j : ℕ) → j < 64 → get_or (block_at flags i) j 0 ≡ get_or flags (i * 64 + j) 0
unfolding block_at
block-flag flags i j h = get_or-take 64 (drop (i * 64) flags) j 0 h ∙ get_or-drop (i * 64) flags j 0

-- block i, lent as `flags[start..end]`
pub block-part :
    (flags : List ℕ) (i start end : ℕ) → start ≡ i * 64 → end ≡ block_end start (length flags)
    → mid_of start (end - start) flags ≡ block_at flags i
unfolding block_at
block-part flags i start end begins ends = go (leb (start + 64) (length flags)) refl
  where
    go : (b : Bool) → leb (start + 64) (length flags) ≡ b → mid_of start (end - start) flags ≡ take 64 (drop (i * 64) flags)
    go true e =
        let whole : end - start ≡ 64 = omega (arith, leb-true (start + 64) (length flags) e) in
        ap (λ k. take k (drop start flags)) whole ∙ ap (λ k. take 64 (drop k flags)) begins
    go false e =
        let short : length flags ≤ start + 64 = omega (arith, leb-false (start + 64) (length flags) e) in
        take_all (end - start) (drop start flags) (omega (arith, length-drop start flags))
        ∙ sym (take_all 64 (drop start flags) (omega (arith, length-drop start flags)))
        ∙ ap (λ k. take 64 (drop k flags)) begins
