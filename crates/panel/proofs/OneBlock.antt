-- For any bytes the panel reads one block of flags at most, and no flag outside that block makes a difference. Assumes nothing.
use mathlib.Core.Path.{◌≡◌, refl}
use mathlib.Core.Bool.{Bool, true, false, cond}
use mathlib.Core.List.{List}
use Prim.Native.Nat.{ℕ, suc, ◌≤◌}
use native.Mathlib.Omega.{arith}
use lib.ListN.{length}
use borrow.Author.Tests.{ltb-true}
use Rattle.parity.specs.Questions.{first_no}
use Rattle.parity.specs.declared.Shape.{Shape}
use Rattle.shape.specs.Answers.{Said}
use Rattle.shape.proofs.Calling.{if-either}
use Rattle.array_memory.specs.Blocks.{block_at}
use Rattle.array_memory.specs.Lengths.{flagged_lengths}
use Rattle.array_memory.specs.Memory.{Memory, with_flags}
use Rattle.array_memory.proofs.BlockPlaces.{block-low}
use Rattle.panel.specs.Panel.{Reading, first_nonzero, any_nonzero, read_count, panel_reading, panel_questions, panel_call}
use Rattle.panel.specs.Claims.{OneBlockClaim}

-- a search reads no more bytes than there are
read_low : (bytes : List ℕ) → read_count bytes ≤ length bytes
read_low bytes = go (any_nonzero bytes) refl
  where
    go : (b : Bool) → any_nonzero bytes ≡ b → cond b (suc (first_nonzero bytes)) (length bytes) ≤ length bytes
    go true e = ltb-true (first_nonzero bytes) (length bytes) e
    go false e = omega arith

module _ (s : Shape) (mem : Memory) where
  -- the one block of flags that is looked at
  abbrev block : List ℕ
  block = block_at mem.flags (first_nonzero mem.totals)

  -- the panel reads no more flags than that has, also where it reads none
  reading-low : (panel_reading mem.flags mem.totals).read ≤ length block
  unfolding panel_reading
  reading-low = either (any_nonzero mem.totals) _ _ (read_low block) (omega arith)
    where
      either : (b : Bool) (some none : Reading) → some.read ≤ length block → none.read ≤ length block → (cond b some none).read ≤ length block
      either true some none h g = h
      either false some none h g = g

  call-low : (panel_call s mem).value.read ≤ length block
  unfolding panel_call
  call-low =
      if-either (λ (said : Said Reading). said.value.read ≤ length block) (first_no (panel_questions s (flagged_lengths mem))) _ _ reading-low (omega arith)

  -- other flags with the same block tell the same
  call_same :
      (flags : List ℕ) → length flags ≡ length mem.flags → block_at flags (first_nonzero mem.totals) ≡ block
      → panel_call s (with_flags flags mem) ≡ panel_call s mem
  unfolding panel_call panel_reading
  call_same flags sized same = rw (sized, same) refl

pub one_block_claim : OneBlockClaim
one_block_claim =
    record {
      bounded = λ s mem. omega (arith, call-low s mem, block-low mem.flags (first_nonzero mem.totals));
      elsewhere = call_same;
    }
