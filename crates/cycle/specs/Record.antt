-- The cycle record as a function of the digits that its cycle skips, of the shape, and of the accepted steps since the start.
use Rattle.std.specs.Prelude.{Bool, true, false, ◌&&◌, ℕ, Option, Some, None}
use Rattle.parity.specs.Questions.{Question}
use Rattle.parity.specs.declared.Shape.{Shape}
use Rattle.schedule.specs.Schedule.{Entry}
use Rattle.cycle_place.specs.Places.{place_at, entry_at, next_at, is_place_of}
use Rattle.cycle_place.specs.declared.Place.{Place}
use Rattle.cycle.specs.declared.Cycle.{Cycle}
use Rattle.cycle.specs.declared.Phase.{Phase}
use Rattle.cycle.specs.declared.Phase.TheVariants.{Idle, Open, Complete}

-- the place that is all 0: that of both openings, and of a record with no lookup to come
abbrev pub no_place : Place
no_place = place_at 0 0 0 0

-- the idle record with count 0
abbrev pub idle : Cycle
idle = record { phase = Idle; place = no_place; count = 0; skip = 0 }

-- the open record of a cycle that skips the z lowest digits and whose next lookup is at a place
abbrev pub open_at : ℕ → Place → ℕ → Cycle
open_at z place c = record { phase = Open; place = place; count = c; skip = z }

-- its complete record
abbrev pub complete_at : ℕ → ℕ → Cycle
complete_at z c = record { phase = Complete; place = no_place; count = c; skip = z }

-- open while a vector is still to come, and complete after the last
abbrev pub record_at : ℕ → Option Place → ℕ → Cycle
record_at z (Some place) c = open_at z place c
record_at z None c = complete_at z c

-- the record that a start with z and c accepted steps leave
unfoldable pub cycle_at : ℕ → Shape → ℕ → Cycle
cycle_at z s c = record_at z (next_at z s c) c

-- the entry that a record stands at, by its own digits and count
abbrev pub next_entry : Shape → Cycle → Entry
next_entry s cycle = entry_at cycle.skip s cycle.count

-- whether a record is open
abbrev pub is_open : Phase → Bool
is_open Idle = false
is_open Open = true
is_open Complete = false

-- 9: is the record one that a start and accepted steps on this shape leave, with a vector still to come? It is the one with its own z, which is
-- below b, since a start takes no other, and with its own count.
unfoldable pub is_next : Shape → Cycle → Bool
is_next s cycle = is_open cycle.phase && is_place_of cycle.skip s cycle.count cycle.place

abbrev pub cycle_question : Shape → Cycle → Question
cycle_question s cycle = record { number = 9; holds = is_next s cycle }
