-- `acam::compare::narrow` meets its contract: what has been gathered and what is left give the answer of all, and the bytes so far and those of the
-- inputs that are left are the bytes of all. Assumes nothing.
use mathlib.Core.Path.{◌≡◌}
use mathlib.Core.Bool.{◌&&◌}
use mathlib.Core.List.{◌++◌, map}
use Prim.Native.Nat.{◌%◌}
use lib.Dec.{ltb}
use lib.ListN.{take, drop}
use Rattle.parity.specs.Lists.{every}
use Rattle.acam.proofs.compare.narrow.Given as goal

abbrev pub invariant-loop-j : goal.invariant-loop-j
invariant-loop-j l =
    (l.below && every (λ v. ltb v l.levels) (drop l.j l.inputs) ≡ every (λ v. ltb v l.levels) l.inputs)
    × (take l.j l.bytes ++ map (λ v. v % 256) (drop l.j l.inputs) ≡ map (λ v. v % 256) l.inputs)
