-- `shape::sizes::least_checks` meets its contract: what is left of the search gives the whole search's answer. Assumes nothing.
use mathlib.Core.Path.{◌≡◌}
use Prim.Native.Nat.{ℕ}
use lib.Dec.{leb}
use Rattle.parity.specs.Shape.{largest, redundancy}
use Rattle.shape.proofs.Search.{searched}
use Rattle.shape.proofs.sizes.least_checks.Given as goal

-- the search from r on
abbrev pub from : ℕ → ℕ → ℕ → ℕ
from τ k = searched (λ r. leb k (largest τ r)) 9

abbrev pub invariant-loop-checks : goal.invariant-loop-checks
invariant-loop-checks l = from l.errors l.width l.checks ≡ redundancy l.errors l.width
