-- `acam::sound::all_balanced` meets its contract: the test has passed at each number below l, and fails where it fails at l.
-- Assumes nothing.
use mathlib.Core.Path.{◌≡◌}
use mathlib.Core.Bool.{Bool, true}
use mathlib.Core.List.{List}
use Prim.Native.Nat.{ℕ, ◌%◌}
use lib.Dec.{eqb}
use lib.ListN.{get_or}
use Rattle.parity.specs.Lists.{every_to}
use Rattle.acam.proofs.sound.all_balanced.Given as goal

abbrev pub balanced : List ℕ → ℕ → ℕ → Bool
balanced sums radix l = eqb (get_or sums l 0 % radix) 0

abbrev pub invariant-loop-l : goal.invariant-loop-l
invariant-loop-l l = every_to l.l (balanced l.sums l.radix) ≡ true
