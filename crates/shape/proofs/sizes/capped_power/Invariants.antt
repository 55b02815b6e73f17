-- `shape::sizes::capped_power` meets its contract: the running power is ρ^i and at most 256; past 256 the whole power is past it too.
-- Assumes nothing.
use mathlib.Core.Path.{◌≡◌}
use Prim.Native.Nat.{◌^◌, ◌≤◌}
use Rattle.shape.proofs.sizes.capped_power.Given as goal

abbrev pub invariant-loop : goal.invariant-loop
invariant-loop l = (l.power ≡ l.radix ^ l.counter) × (l.power ≤ 256)
