-- The numbers of a place in which a test stands are small. Assumes nothing.
use Prim.Native.Nat.{ℕ, ◌<◌}
use native.Mathlib.Omega.{arith}
use Rattle.parity.specs.Questions.{Taken}
use Rattle.parity.specs.declared.Shape.{Shape}
use Rattle.parity.proofs.Redundancy.{redundancy_claim}
use Rattle.parity.proofs.Sizes.{columns-high}
use Rattle.parity.proofs.Taken.{limits}
use Rattle.cycle_place.specs.Walk.{Stands}
use Rattle.cycle_place.specs.declared.Place.{Place}
use Rattle.cycle_place.proofs.CheckRows.{bit-tested}
use Rattle.cycle_place.proofs.Spans.{span-high, span-power, span-above}
use Rattle.cycle_place.proofs.Places.{is_place_of-at, at_place}

pub radix_some : (s : Shape) → Taken s → 0 < s.radix
radix_some s t = omega (arith, (limits s t).radix_low)

module _ {z : ℕ} {s : Shape} {p : Place} (t : Taken s) (place : Stands z s p) where
  pub check_high : p.check < 8
  check_high = omega (arith, place.check, (redundancy_claim s t).high)

  pub column_high : p.column < 255
  column_high = omega (arith, place.column, columns-high s t)

  pub factor_high : p.factor < 256
  factor_high = omega (arith, place.high, span-high s t p.digit)

-- what the tests of a place ask, part by part
pub ruleset place_tests = (is_place_of-at, at_place, redundancy_claim, bit-tested, span-power, span-above, span-high, radix_some)
