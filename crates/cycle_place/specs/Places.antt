-- The place of a lookup in the schedule, and the place of the lookup that comes after so many others.
use Rattle.std.specs.Prelude.{Bool, cond, ◌&&◌, ℕ, eqb, ltb, Option, Some, None, length, get_or}
use Rattle.parity.specs.declared.Shape.{Shape}
use Rattle.schedule.specs.Schedule.{Kind, opens, counts, Entry, within, schedule}
use Rattle.cycle_place.specs.declared.Place.{Place}

-- the place with ℓ, s, j and a
abbrev pub place_at : ℕ → ℕ → ℕ → ℕ → Place
place_at ℓ s j a = record { check = ℓ; digit = s; column = j; factor = a }

-- the place of an entry of the schedule: that of an opening is all 0, and no test's is; the two openings have different counts
abbrev pub place_by : Kind → Place → Place
place_by (opens byte) own = place_at 0 0 0 0
place_by counts own = own

abbrev pub place_of : Entry → Place
place_of e = place_by e.kind (place_at e.check e.digit e.column e.factor)

-- the schedule's entry c, counted from 0
unfoldable pub entry_at : ℕ → Shape → ℕ → Entry
entry_at z s c = get_or (schedule z s) c (within 0 0 0 0)

-- the place of the lookup after c others, or the end: no vector is to come
unfoldable pub next_at : ℕ → Shape → ℕ → Option Place
next_at z s c = cond (ltb c (length (schedule z s))) (Some (place_of (entry_at z s c))) None

abbrev pub same_place : Place → Place → Bool
same_place p q = eqb p.check q.check && eqb p.digit q.digit && eqb p.column q.column && eqb p.factor q.factor

-- whether a cycle that skips z digits, which are not all, has a vector to come after c others, and its place is this one
unfoldable pub is_place_of : ℕ → Shape → ℕ → Place → Bool
is_place_of z s c place = ltb z s.digits && (ltb c (length (schedule z s)) && same_place place (place_of (entry_at z s c)))
