-- What the panel is told, by whether some total isn't 0 and whether its block has a flag. Assumes nothing.
use mathlib.Core.Path.{◌≡◌, refl, ap}
use mathlib.Core.Bool.{Bool, true, false, cond}
use mathlib.Core.List.{List}
use Prim.Native.Nat.{ℕ, suc, ◌+◌, ◌-◌, ◌*◌}
use native.Mathlib.Omega.{arith}
use lib.ListN.{length}
use Rattle.std.specs.declared.result.Result.{Result}
use Rattle.std.specs.declared.result.Result.TheVariants.{Ok, Err}
use Rattle.parity.specs.Lists.{sum_over}
use Rattle.shape.specs.Answers.{row, none}
use Rattle.array_memory.specs.Blocks.{block_at}
use Rattle.panel.specs.Panel.{Reading, reading, first_nonzero, any_nonzero, panel_reading}
use Rattle.panel.specs.Reads.{searched}

-- what a search through the flags of a block tells
abbrev pub told_by : ℕ → ℕ → Result ℕ ℕ → Reading
told_by total start (Err read) = reading total none read
told_by total start (Ok read) = reading total (row (start + read - 1)) read

module _ (flags totals : List ℕ) {total : ℕ} (summed : total ≡ sum_over totals (λ t. t)) where
  pub reads_none : any_nonzero totals ≡ false → reading total none 0 ≡ panel_reading flags totals
  unfolding panel_reading
  reads_none e = rw (e, summed) refl

  -- of the first block whose total isn't 0
  abbrev block : List ℕ
  block = block_at flags (first_nonzero totals)

  pub reads-block :
      any_nonzero totals ≡ true → {start : ℕ} → start ≡ first_nonzero totals * 64
      → told_by total start (searched block) ≡ panel_reading flags totals
  unfolding panel_reading
  reads-block e starts = rw (e, starts, ← summed) (go (any_nonzero block) (first_nonzero block))
    where
      go :
          (b : Bool) (first : ℕ)
          → told_by total (first_nonzero totals * 64) (cond b (Ok (cond b (suc first) (length block))) (Err (cond b (suc first) (length block))))
          ≡ reading total (cond b (row (first_nonzero totals * 64 + first)) none) (cond b (suc first) (length block))
      go true first = ap (λ i. reading total (row i) (suc first)) (omega arith)
      go false first = refl
