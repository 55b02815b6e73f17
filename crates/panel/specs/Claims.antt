-- The theorems on totals and panel, as types; the proofs are in proofs/.
use Rattle.std.specs.Prelude.{◌≡◌, List, ℕ, ◌≤◌, length}
use Rattle.parity.specs.Questions.{Taken}
use Rattle.parity.specs.declared.Shape.{Shape}
use Rattle.shape.specs.Answers.{accepted}
use Rattle.array_memory.specs.Blocks.{block_at, block_totals}
use Rattle.array_memory.specs.Memory.{Memory, with_flags}
use Rattle.call_lists.specs.Run.{Call, run}
use Rattle.panel.specs.Panel.{first_nonzero, panel_call, full_reading}

-- After every list of calls from the fresh array, refused ones included, each total is its block's count of flagged rows.
abbrev pub TotalsClaim : Type 0
TotalsClaim = (s : Shape) (calls : List Call) → (run s calls).memory.totals ≡ block_totals (run s calls).memory.flags

-- In such a list the panel call is taken, and total and first row are those of a full reading of the flags. The flags that it reads are those from the
-- start of that row's block through the row's own, and none where no row is flagged.
abbrev pub FullReadingClaim : Type 0
FullReadingClaim =
    (s : Shape) → Taken s → (calls : List Call) → panel_call s (run s calls).memory ≡ accepted (full_reading (run s calls).memory.flags)

-- For any bytes one block of flags is read at most ..
pub record OneBlockClaim : Type 0 where
  pub bounded : (s : Shape) (mem : Memory) → (panel_call s mem).value.read ≤ 64
  -- .. and it is the first block whose total isn't 0: with as many flags that are the same in that block the panel is told the same.
  pub elsewhere :
      (s : Shape) (mem : Memory) (flags : List ℕ) → length flags ≡ length mem.flags
      → block_at flags (first_nonzero mem.totals) ≡ block_at mem.flags (first_nonzero mem.totals)
      → panel_call s (with_flags flags mem) ≡ panel_call s mem
