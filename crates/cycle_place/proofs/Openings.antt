-- The place of both openings, in which no test stands. Assumes nothing.
use mathlib.Core.Path.{◌≡◌, ap}
use mathlib.Core.Bool.{true, cond, ◌&&◌}
use Prim.Native.Nat.{ℕ, zero, suc, ◌<◌}
use native.Mathlib.Omega.{arith}
use lib.Dec.{ltb}
use lib.ListN.{length}
use borrow.Author.Tests.{lt-ltb}
use Rattle.std.specs.Prelude.{Some, None}
use Rattle.parity.specs.declared.Shape.{Shape}
use Rattle.schedule.specs.Schedule.{tests, schedule}
use Rattle.cycle_place.specs.Places.{place_at, entry_at, next_at, same_place, is_place_of}
use Rattle.cycle_place.specs.Walk.{after_openings}
use Rattle.cycle_place.specs.declared.Place.{Place}

-- there are more lookups than the openings
more : (z : ℕ) (s : Shape) (c : ℕ) → c < 2 → ltb c (length (schedule z s)) ≡ true
unfolding schedule
more z s c h = lt-ltb c (after_openings (length (tests z s))) (omega arith)

-- the test of one of the first two places
pub opening_asked : (z : ℕ) (s : Shape) (c : ℕ) (p : Place) → c < 2 → is_place_of z s c p ≡ ltb z s.digits && same_place p (place_at 0 0 0 0)
unfolding is_place_of entry_at schedule
opening_asked z s zero p h = ap (λ some. ltb z s.digits && (some && same_place p (place_at 0 0 0 0))) (more z s 0 h)
opening_asked z s (suc zero) p h = ap (λ some. ltb z s.digits && (some && same_place p (place_at 0 0 0 0))) (more z s 1 h)
opening_asked z s (suc (suc c)) p h = absurd (omega arith)

-- the place after the first
pub second_place : (z : ℕ) (s : Shape) → next_at z s 1 ≡ Some (place_at 0 0 0 0)
unfolding next_at entry_at schedule
second_place z s = ap (λ some. cond some (Some (place_at 0 0 0 0)) None) (more z s 1 (omega arith))
