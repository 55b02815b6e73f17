-- The cycle record of a number of digits skipped and a count: open below the cycle's length and complete from it on; and the records that
-- question 9 takes. Assumes nothing.
use mathlib.Core.Path.{◌≡◌, refl, sym, ap, ◌∙◌}
use mathlib.Core.Bool.{true, false, ◌&&◌, and-eq-true_iff, false≢true}
use Prim.Native.Nat.{ℕ, ◌≤◌, ◌<◌}
use native.Mathlib.Nat.{zero-lt-suc}
use lib.ListN.{length}
use borrow.Author.Tests.{lt-ltb}
use Rattle.std.specs.Prelude.{Option, Some, None}
use Rattle.parity.specs.Matrix.{cycle_steps}
use Rattle.parity.specs.Questions.{Taken}
use Rattle.parity.specs.declared.Shape.{Shape}
use Rattle.schedule.specs.Schedule.{schedule}
use Rattle.schedule.proofs.Length.{schedule-length}
use Rattle.cycle_place.specs.Places.{place_of, entry_at, next_at, is_place_of}
use Rattle.cycle_place.specs.declared.Place.{Place}
use Rattle.cycle_place.specs.Walk.{AtPlace}
use Rattle.cycle_place.proofs.Places.{place_end, is-place, place_is, is_place_of-at}
use Rattle.cycle.specs.Record.{no_place, open_at, complete_at, record_at, cycle_at, is_open, is_next}
use Rattle.cycle.specs.declared.Cycle.{Cycle}
use Rattle.cycle.specs.declared.Phase.{Phase}
use Rattle.cycle.specs.declared.Phase.TheVariants.{Idle, Open, Complete}

pub open-phase : (p : Phase) → is_open p ≡ true → p ≡ Open
open-phase Idle e = absurd (false≢true e)
open-phase Open e = refl
open-phase Complete e = absurd (false≢true e)

-- an idle record has no lookup to come
pub next-idle : (s : Shape) (cycle : Cycle) → cycle.phase ≡ Idle → is_next s cycle ≡ false
unfolding is_next
next-idle s cycle e = rw e refl

module _ (z : ℕ) (s : Shape) where
  -- the count and the digits skipped, open or complete
  record-told : (c : ℕ) → ((cycle_at z s c).count ≡ c) × ((cycle_at z s c).skip ≡ z)
  unfolding cycle_at
  record-told c = go (next_at z s c)
    where
      go : (next : Option Place) → ((record_at z next c).count ≡ c) × ((record_at z next c).skip ≡ z)
      go (Some place) = (refl, refl)
      go None = (refl, refl)

  pub record-count : (c : ℕ) → (cycle_at z s c).count ≡ c
  record-count c = (record-told c).0

  pub record-skip : (c : ℕ) → (cycle_at z s c).skip ≡ z
  record-skip c = (record-told c).1

  -- A record that stands at count c: its phase, its place, its count and the digits that it skips are those that a start with z and c accepted
  -- steps leave. A further field of the record is no part of it.
  pub record Stands (c : ℕ) (cycle : Cycle) : Type 0 where
    pub phase : cycle.phase ≡ (cycle_at z s c).phase
    pub place : cycle.place ≡ (cycle_at z s c).place
    pub count : cycle.count ≡ c
    pub skip : cycle.skip ≡ z

  pub stands_at : (c : ℕ) (cycle : Cycle) → cycle ≡ cycle_at z s c → Stands c cycle
  stands_at c cycle e =
      record {
        phase = ap (λ r. r.phase) e;
        place = ap (λ r. r.place) e;
        count = ap (λ r. r.count) e ∙ record-count c;
        skip = ap (λ r. r.skip) e ∙ record-skip c;
      }

  -- question 9 asks of these alone
  pub stands-next : (c : ℕ) (cycle : Cycle) → Stands c cycle → is_next s cycle ≡ is_next s (cycle_at z s c)
  unfolding is_next
  stands-next c cycle at =
      let count : cycle.count ≡ (cycle_at z s c).count = at.count ∙ sym (record-count c) in
      let skip : cycle.skip ≡ (cycle_at z s c).skip = at.skip ∙ sym (record-skip c) in
      λ i. is_open (at.phase i) && is_place_of (skip i) s (count i) (at.place i)

  module _ (t : Taken s) (c : ℕ) where
    pub record-open : c < cycle_steps z s → cycle_at z s c ≡ open_at z (place_of (entry_at z s c)) c
    unfolding cycle_at next_at
    record-open h = rw (lt-ltb c (length (schedule z s)) (rw (schedule-length z s t) h))

    pub record-complete : cycle_steps z s ≤ c → cycle_at z s c ≡ complete_at z c
    unfolding cycle_at
    record-complete h = ap (λ next. record_at z next c) (place_end z s t c h)

    pub next-open : z < s.digits → c < cycle_steps z s → is_next s (cycle_at z s c) ≡ true
    unfolding is_next
    next-open some h = rw (record-open h) (is-place z s t c some h)

    pub next-complete : cycle_steps z s ≤ c → is_next s (cycle_at z s c) ≡ false
    unfolding is_next
    next-complete h = rw (record-complete h)

-- the record of a start: its first opening is next
pub start-record : (z : ℕ) (s : Shape) → Taken s → cycle_at z s 0 ≡ open_at z no_place 0
unfolding entry_at schedule
start-record z s t = record-open z s t 0 (zero-lt-suc _)

pub next-record :
    (s : Shape) → Taken s → (cycle : Cycle) → is_next s cycle ≡ true
    → (cycle.skip < s.digits) × (cycle.count < cycle_steps cycle.skip s) × (cycle ≡ cycle_at cycle.skip s cycle.count)
unfolding is_next
next-record s t cycle e =
    let z : ℕ = cycle.skip in
    let both = (and-eq-true_iff (is_open cycle.phase) (is_place_of z s cycle.count cycle.place)).0 e in
    let (some, lt, place) = place_is z s t cycle.count cycle.place both.1 in
    let phase = open-phase cycle.phase both.0 in
    (some, lt, (λ i. record { phase = phase i; place = place i; count = cycle.count; skip = z }) ∙ sym (record-open z s t cycle.count lt))

-- .. and what question 9 takes is open and, after the openings, stands at the place of a test that has its count
module _ (s : Shape) (t : Taken s) (cycle : Cycle) where
  pub next-phase : is_next s cycle ≡ true → cycle.phase ≡ Open
  unfolding is_next
  next-phase e = open-phase cycle.phase ((and-eq-true_iff (is_open cycle.phase) _).0 e).0

  pub next_place : 1 < cycle.count → is_next s cycle ≡ true → AtPlace cycle.skip s cycle.count cycle.place
  unfolding is_next
  next_place low e = is_place_of-at cycle.skip s t cycle.count low cycle.place ((and-eq-true_iff (is_open cycle.phase) _).0 e).1
