-- `cycle_place::factors::scale` meets its contract: the product is the number times ρ^e after e turns. Assumes nothing.
use mathlib.Core.Path.{◌≡◌}
use Prim.Native.Nat.{◌*◌, ◌^◌}
use Rattle.cycle_place.proofs.factors.scale.Given as goal

abbrev pub invariant-loop : goal.invariant-loop
invariant-loop l = l.product ≡ l.number * l.radix ^ l.counter
