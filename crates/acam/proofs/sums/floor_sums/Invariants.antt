-- `acam::sums::floor_sums` meets its contract: the sums are those of the first j columns and cells. Assumes nothing.
use mathlib.Core.Path.{◌≡◌}
use mathlib.Core.List.{List}
use Prim.Native.Nat.{ℕ, ◌/◌}
use lib.ListN.{take}
use Rattle.parity.specs.Lists.{tabulate}
use Rattle.parity.proofs.Sums.{check_sum}
use Rattle.acam.proofs.sums.floor_sums.Given as goal

-- the sums of the first j columns and cells
abbrev pub sum_of : ℕ → List ℕ → List ℕ → ℕ → ℕ → ℕ
sum_of power columns cells j l = check_sum (λ v. v / power) l (take j columns) (take j cells)

abbrev pub sums_of : ℕ → List ℕ → List ℕ → ℕ → List ℕ
sums_of power columns cells j = tabulate 8 (sum_of power columns cells j)

abbrev pub invariant-loop-j : goal.invariant-loop-j
invariant-loop-j l = l.sums ≡ sums_of l.power l.matrix l.cells l.j
