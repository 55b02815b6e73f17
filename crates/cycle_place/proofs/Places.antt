-- The places of the tests by their index in the schedule: such a place is that of the lookup after c others exactly where it has index c.
-- Assumes nothing.
use mathlib.Core.Path.{◌≡◌, refl, sym, ap, subst, ◌∙◌}
use mathlib.Core.Bool.{true, and-eq-true_iff}
use Prim.Native.Nat.{ℕ, zero, suc, ◌≤◌, ◌<◌, suc-le-suc}
use native.Mathlib.Nat.{le_of_suc-le-suc}
use native.Mathlib.Omega.{arith}
use lib.Dec.{eqb, ltb}
use lib.ListN.{length}
use borrow.Author.Tests.{eqb-true, eq-eqb, ltb-true, lt-ltb, le-ltb}
use Rattle.std.specs.Prelude.{Some, None}
use Rattle.parity.specs.Matrix.{cycle_steps}
use Rattle.parity.specs.Questions.{Taken}
use Rattle.parity.specs.declared.Shape.{Shape}
use Rattle.schedule.specs.Schedule.{within, schedule}
use Rattle.schedule.specs.Index.{entry_of}
use Rattle.schedule.proofs.Length.{tests-length, schedule-length}
use Rattle.schedule.proofs.Index.{index_claim}
use Rattle.cycle_place.specs.Places.{place_at, place_of, entry_at, next_at, same_place, is_place_of}
use Rattle.cycle_place.specs.Walk.{after_openings, index_of, AtPlace}
use Rattle.cycle_place.specs.declared.Place.{Place}

pub same_place-equal : (p q : Place) → same_place p q ≡ true → p ≡ q
same_place-equal p q e =
    let four = (and-eq-true_iff _ (eqb p.factor q.factor)).0 e in
    let three = (and-eq-true_iff _ (eqb p.column q.column)).0 four.0 in
    let two = (and-eq-true_iff (eqb p.check q.check) (eqb p.digit q.digit)).0 three.0 in
    let check = eqb-true p.check q.check two.0 in
    let digit = eqb-true p.digit q.digit two.1 in
    let column = eqb-true p.column q.column three.1 in
    let factor = eqb-true p.factor q.factor four.1 in
    λ i. record { check = check i; digit = digit i; column = column i; factor = factor i }

place_same : (p : Place) → same_place p p ≡ true
place_same p =
    simp (
      eq-eqb p.check p.check refl,
      eq-eqb p.digit p.digit refl,
      eq-eqb p.column p.column refl,
      eq-eqb p.factor p.factor refl,
    )

module _ (z : ℕ) (s : Shape) (t : Taken s) where
  -- the lookup after c others is at the place that has this index ..
  pub place-entry :
      (c : ℕ) (p : Place) → AtPlace z s c p → (c < cycle_steps z s) × (entry_at z s c ≡ entry_of z s p.check p.digit p.column p.factor)
  unfolding entry_at schedule
  place-entry c p at =
      let stands = (index_claim z s t).stands p.check p.digit p.column p.factor at.0 in
      let below : index_of z s p < cycle_steps z s = suc-le-suc (suc-le-suc (rw (tests-length z s t) at stands.0)) in
      (rw at.1 at below, ap (entry_at z s) (sym at.1) ∙ stands.1 (within 0 0 0 0))

  -- .. of the tests, which come after the openings
  pub test_at : (c : ℕ) → 1 < c → c < cycle_steps z s → AtPlace z s c (place_of (entry_at z s c))
  unfolding entry_at schedule
  test_at zero low h = absurd (omega arith)
  test_at (suc zero) low h = absurd (omega arith)
  test_at (suc (suc c)) low h =
      let (ℓ, d, j, a, stands, index) = (index_claim z s t).found c (rw (tests-length z s t) (le_of_suc-le-suc (le_of_suc-le-suc h))) in
      let at : AtPlace z s (after_openings c) (place_at ℓ d j a) = (stands, ap after_openings index) in
      subst (AtPlace z s (after_openings c)) (sym (ap place_of (place-entry (after_openings c) (place_at ℓ d j a) at).1)) at

  module _ (c : ℕ) where
    pub place-next : (p : Place) → AtPlace z s c p → next_at z s c ≡ Some p
    unfolding next_at
    place-next p at =
        let entry = place-entry c p at in
        rw (lt-ltb c (length (schedule z s)) (rw (schedule-length z s t) entry.0)) (ap (λ e. Some (place_of e)) entry.1)

    -- .. and there is none from the cycle's length on
    pub place_end : cycle_steps z s ≤ c → next_at z s c ≡ None
    unfolding next_at
    place_end h = rw (le-ltb c (length (schedule z s)) (rw (schedule-length z s t) h)) refl

    -- the test of a place
    pub is-place : z < s.digits → c < cycle_steps z s → is_place_of z s c (place_of (entry_at z s c)) ≡ true
    unfolding is_place_of
    is-place some h =
        simp (
          lt-ltb z s.digits some,
          lt-ltb c (length (schedule z s)) (rw (schedule-length z s t) h),
          place_same (place_of (entry_at z s c)),
        )

    pub place_is : (p : Place) → is_place_of z s c p ≡ true → (z < s.digits) × (c < cycle_steps z s) × (p ≡ place_of (entry_at z s c))
    unfolding is_place_of
    place_is p e =
        let some = (and-eq-true_iff (ltb z s.digits) _).0 e in
        let both = (and-eq-true_iff (ltb c (length (schedule z s))) (same_place p (place_of (entry_at z s c)))).0 some.1 in (
          ltb-true z s.digits some.0,
          rw (schedule-length z s t) at (ltb-true c (length (schedule z s)) both.0),
          same_place-equal p (place_of (entry_at z s c)) both.1,
        )

    pub is_place_of-at : 1 < c → (p : Place) → is_place_of z s c p ≡ true → AtPlace z s c p
    is_place_of-at low p e =
        let (some, h, same) = place_is p e in
        subst (AtPlace z s c) (sym same) (test_at c low h)

    pub at_place : (p : Place) → AtPlace z s c p → is_place_of z s c p ≡ true
    at_place p at =
        let entry = place-entry c p at in
        let some : z < s.digits = omega (arith, at.0.unskipped, at.0.digit) in
        subst (λ q. is_place_of z s c q ≡ true) (ap place_of entry.1) (is-place some entry.0)
