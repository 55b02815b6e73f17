-- `panel::sum_totals`: the first i totals are added up, and the first of them that isn't 0 is found. Assumes nothing.
use mathlib.Core.Path.{◌≡◌}
use mathlib.Core.List.{List}
use Prim.Native.Nat.{ℕ, ◌*◌, ◌≤◌}
use lib.ListN.{take}
use Rattle.panel.specs.Panel.{first_nonzero}
use Rattle.panel.proofs.FirstFlags.{sum}
use Rattle.panel.proofs.sum_totals.Given as goal

-- what is known of the first i totals
pub record Summed (totals : List ℕ) (i total block : ℕ) : Type 0 where
  pub adds : total ≡ sum (take i totals)
  pub low : total ≤ i * 255
  pub finds : block ≡ first_nonzero (take i totals)
  pub few : block ≤ i

abbrev pub invariant-loop-total : goal.invariant-loop-total
invariant-loop-total l = Summed l.totals l.total-index l.sum l.block
