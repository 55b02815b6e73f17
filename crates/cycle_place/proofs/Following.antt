-- The place after that of a test: the next factor in its column, else the next column of J(ℓ), else the first of the next lower digit
-- that is not skipped, else the first of the next check row, else the end. Assumes nothing.
use mathlib.Core.Path.{◌≡◌, refl, sym, ap, ap₂, ◌∙◌}
use mathlib.Core.List.{List}
use mathlib.Core.Bool.{Bool, true, false, ◌&&◌, and-false}
use Prim.Native.Nat.{ℕ, suc, ◌+◌, ◌-◌, ◌*◌, ◌≤◌, ◌<◌}
use native.Mathlib.Nat.{zero-div, mod-eq_of_lt}
use native.Mathlib.Numerals.{add-one}
use native.Mathlib.Omega.{arith}
use lib.Dec.{eqb, ltb}
use lib.ListN.{length}
use borrow.Author.Tests.{eqb-true, ltb-true, ltb-false, eq-eqb, ne_eqb}
use Rattle.std.specs.Prelude.{Option, Some, None}
use Rattle.parity.specs.Lists.{sum_to}
use Rattle.parity.specs.Shape.{checks, columns}
use Rattle.parity.specs.Matrix.{matrix, places_from, support, matrix_ones, lookups}
use Rattle.parity.specs.Questions.{Taken}
use Rattle.parity.specs.declared.Shape.{Shape}
use Rattle.parity.proofs.Taken.{limits}
use Rattle.parity.proofs.Redundancy.{redundancy_claim}
use Rattle.parity.proofs.MatrixFacts.{matrix_claim}
use Rattle.schedule.specs.Schedule.{factors}
use Rattle.schedule.specs.Index.{IsPlace, support_size, rank, span, place_index, ends_at}
use Rattle.schedule.proofs.Support.{support-some}
use Rattle.schedule.proofs.Ranks.{factor_rank, Factor, stands-support, factor-last, span-step}
use Rattle.cycle_place.specs.Places.{place_at, next_at}
use Rattle.cycle_place.specs.Walk.{Stands, after_openings, index_of, AtPlace, here_at, MatrixLent, TestAt}
use Rattle.cycle_place.specs.declared.Place.{Place}
use Rattle.cycle_place.specs.declared.walk.Here.{Here}
use Rattle.cycle_place.proofs.CheckRows.{ones_before, before-next, held_from, Held, held_found, held-some}
use Rattle.cycle_place.proofs.Spans.{span-times, span-end, span_less}
use Rattle.cycle_place.proofs.NextFactor.{next_factor, next-undivided, next-rank, next_low, next_last}
use Rattle.cycle_place.proofs.Places.{place-next, place_end}

-- how many tests stand before those of check row ℓ, and before those of digit d in the column of rank r there
abbrev check_start : ℕ → Shape → ℕ → ℕ
check_start z s ℓ = (span s z - 1) * sum_to ℓ (support_size s)

abbrev column_start : ℕ → Shape → ℕ → ℕ → ℕ → ℕ
column_start z s ℓ d r = check_start z s ℓ + support_size s ℓ * (span s (suc d) - 1) + r * (span s d - span s (suc d))

two : (s : Shape) → Taken s → 2 ≤ s.radix
two s t = (limits s t).radix_low

module _ (z : ℕ) (s : Shape) (t : Taken s) where
  -- ---- where columns, digits and check rows start and end

  digit-whole : (ℓ d : ℕ) → d < s.digits → column_start z s ℓ d (support_size s ℓ) ≡ check_start z s ℓ + support_size s ℓ * (span s d - 1)
  digit-whole ℓ d h =
      let less = span_less s t d h in
      let parts : span s d - 1 ≡ span s (suc d) - 1 + (span s d - span s (suc d)) = omega arith in
      omega (arith, ap (λ x. support_size s ℓ * x) parts)

  check-end : (ℓ : ℕ) → z < s.digits → column_start z s ℓ z (support_size s ℓ) ≡ check_start z s (suc ℓ)
  check-end ℓ h = omega (arith, digit-whole ℓ z h)

  check-start : (ℓ : ℕ) → column_start z s ℓ (s.digits - 1) 0 ≡ check_start z s ℓ
  check-start ℓ =
      let last : suc (s.digits - 1) ≡ s.digits = omega (arith, (limits s t).digits_low) in
      omega (arith, ap (λ d. support_size s ℓ * (span s d - 1)) last, ap (λ x. support_size s ℓ * (x - 1)) (span-end s t))

  checks-end : check_start z s (checks s) ≡ lookups z s
  unfolding lookups matrix_ones support_size span
  checks-end = refl

  -- the place of the first lookup of a digit from a column on ..
  start-place :
      (ℓ d i c : ℕ) → ℓ < checks s → z ≤ d → d < s.digits → i ≤ columns s → rank s ℓ i < support_size s ℓ
      → c ≡ after_openings (column_start z s ℓ d (rank s ℓ i)) → AtPlace z s c (place_at ℓ d (held_from (matrix s) ℓ i) 1)
  unfolding rank support_size support place_index
  start-place ℓ d i c row unskipped digit within some e =
      let sized = (matrix_claim s t).sized in
      let held : Held (matrix s) ℓ i (held_from (matrix s) ℓ i) = held_found (matrix s) ℓ (length (matrix s) - i) i (omega arith) some in
      let place : IsPlace z s ℓ d (held_from (matrix s) ℓ i) 1 =
      record {
        check = row;
        digit = digit;
        unskipped = unskipped;
        column = omega arith;
        held = held.one;
        low = omega arith;
        high = omega (arith, span_less s t d digit);
        undivided = λ none. omega (arith, mod-eq_of_lt {n = 1} (two s t));
      } in
      let index : after_openings (place_index z s ℓ d (held_from (matrix s) ℓ i) 1) ≡ c =
      omega (arith, ap (λ r. r * (span s d - span s (suc d))) held.before, zero-div s.radix) in
      (place, index)

  -- .. and at its first of all
  first-place :
      (ℓ d c : ℕ) → ℓ < checks s → z ≤ d → d < s.digits → c ≡ after_openings (column_start z s ℓ d 0)
      → AtPlace z s c (place_at ℓ d (held_from (matrix s) ℓ 0) 1)
  unfolding rank support_size
  first-place ℓ d c row unskipped digit e = start-place ℓ d 0 c row unskipped digit (omega arith) (support-some s t ℓ row) e

  -- ---- the place after the openings

  pub place-first : z < s.digits → AtPlace z s 2 (place_at 0 (s.digits - 1) (held_from (matrix s) 0 0) 1)
  place-first h = first-place 0 (s.digits - 1) 2 (redundancy_claim s t).low (omega arith) (omega arith) (omega (arith, check-start 0))

-- ---- the place after a test

module _ (z : ℕ) (s : Shape) (t : Taken s) (p : Place) (place : Stands z s p) where
  -- the lookups up to this one
  abbrev count : ℕ
  count = suc (index_of z s p)

  follow-factor :
      next_factor s.radix p.factor < span s p.digit
      → next_at z s count ≡ Some (place_at p.check p.digit p.column (next_factor s.radix p.factor))
  unfolding place_index
  follow-factor more =
      let ρ : ℕ = s.radix in
      let a : ℕ = p.factor in
      let step : factor_rank ρ (next_factor ρ a) ≡ suc (factor_rank ρ a) = next-rank ρ (two s t) a place.low place.undivided in
      let next : IsPlace z s p.check p.digit p.column (next_factor ρ a) =
      record {
        check = place.check;
        digit = place.digit;
        unskipped = place.unskipped;
        column = place.column;
        held = place.held;
        low = omega arith;
        high = more;
        undivided = next-undivided ρ (two s t) a;
      } in
      place-next z s t count (place_at p.check p.digit p.column (next_factor ρ a)) (next, omega arith)

  column-after : rank s p.check (suc p.column) ≡ suc (rank s p.check p.column)
  unfolding rank
  column-after =
      omega (arith, before-next (matrix s) p.check p.column (omega (arith, (matrix_claim s t).sized, place.column)), place.held)

  -- whether the search finds a column more in J(ℓ)
  more-columns :
      held_from (matrix s) p.check (suc p.column) < length (matrix s) → suc (rank s p.check p.column) < support_size s p.check
  unfolding rank support_size support
  more-columns found =
      omega (
        arith,
        held-some (matrix s) p.check (length (matrix s) - suc p.column) (suc p.column)
            (omega (arith, (matrix_claim s t).sized, place.column)) found,
        column-after,
      )

  no-column :
      length (matrix s) ≤ held_from (matrix s) p.check (suc p.column) → support_size s p.check ≤ suc (rank s p.check p.column)
  unfolding rank support_size support
  no-column missed = go (ltb (ones_before (matrix s) p.check (suc p.column)) (length (places_from 0 p.check (matrix s)))) refl
    where
      go :
          (b : Bool) → ltb (ones_before (matrix s) p.check (suc p.column)) (length (places_from 0 p.check (matrix s))) ≡ b
          → length (places_from 0 p.check (matrix s)) ≤ suc (ones_before (matrix s) p.check p.column)
      go true e =
          let ones : ℕ = ones_before (matrix s) p.check (suc p.column) in
          let all : ℕ = length (places_from 0 p.check (matrix s)) in
          let held = held_found (matrix s) p.check (length (matrix s) - suc p.column) (suc p.column)
          (omega (arith, (matrix_claim s t).sized, place.column)) (ltb-true ones all e) in
          absurd (omega (arith, held.column))
      go false e =
          omega (
            arith,
            ltb-false (ones_before (matrix s) p.check (suc p.column)) (length (places_from 0 p.check (matrix s))) e,
            column-after,
          )

  -- ---- whether the test is the last of its digit

  abbrev ends : Bool
  ends = ends_at s p.check p.digit p.column p.factor

  factor-more : next_factor s.radix p.factor < span s p.digit → ends ≡ false
  unfolding ends_at
  factor-more more =
      ap (λ top. eqb (suc (rank s p.check p.column)) (support_size s p.check) && top)
      (ne_eqb (suc p.factor) (span s p.digit) (λ e. omega (arith, next_low s.radix (two s t) p.factor)))
      ∙ and-false (eqb (suc (rank s p.check p.column)) (support_size s p.check))

  column-more : suc (rank s p.check p.column) < support_size s p.check → ends ≡ false
  unfolding ends_at
  column-more more = rw (ne_eqb (suc (rank s p.check p.column)) (support_size s p.check) (λ e. omega arith)) refl

  -- ---- no factor more in the column

  module _ (past : span s p.digit ≤ next_factor s.radix p.factor) where
    factor-top : suc p.factor ≡ span s p.digit
    factor-top =
        let k : ℕ = span s (suc p.digit) in
        let whole : span s p.digit ≡ k * s.radix = span-times s t p.digit place.digit in
        next_last s.radix (two s t) p.factor k (omega (arith, place.high)) (omega arith) ∙ sym whole

    column-done : count ≡ after_openings (column_start z s p.check p.digit (suc (rank s p.check p.column)))
    unfolding place_index
    column-done =
        let d : ℕ = p.digit in
        let a : ℕ = p.factor in
        let factor : Factor s d a = record { low = place.low; high = place.high; undivided = place.undivided } in
        let all : suc (factor_rank s.radix a) ≡ length (factors s d) =
        eqb-true _ _ (factor-last s (two s t) d place.digit a factor ∙ eq-eqb (suc a) (span s d) factor-top) in
        omega (arith, span-step s (two s t) d place.digit)

    follow-column :
        suc (rank s p.check p.column) < support_size s p.check
        → next_at z s count ≡ Some (place_at p.check p.digit (held_from (matrix s) p.check (suc p.column)) 1)
    follow-column more =
        place-next z s t count _
        (start-place z s t p.check p.digit (suc p.column) count place.check place.unskipped
        place.digit place.column (rw column-after more)
        (column-done ∙ ap (λ r. after_openings (column_start z s p.check p.digit r)) (sym column-after)))

    module _ (last : support_size s p.check ≤ suc (rank s p.check p.column)) where
      column-last : suc (rank s p.check p.column) ≡ support_size s p.check
      unfolding support_size
      column-last = omega (arith, (stands-support s t p.check p.column place.column place.held).0)

      digit-done : count ≡ after_openings (column_start z s p.check p.digit (support_size s p.check))
      digit-done = column-done ∙ ap (λ r. after_openings (column_start z s p.check p.digit r)) column-last

      digit-ends : ends ≡ true
      unfolding ends_at
      digit-ends =
          simp (
            eq-eqb (suc (rank s p.check p.column)) (support_size s p.check) column-last,
            eq-eqb (suc p.factor) (span s p.digit) factor-top,
          )

      follow-digit :
          z < p.digit
          → next_at z s count ≡ Some (place_at p.check (p.digit - 1) (held_from (matrix s) p.check 0) 1)
      follow-digit more =
          let own : suc (p.digit - 1) ≡ p.digit = omega arith in
          place-next z s t count _
          (first-place z s t p.check (p.digit - 1) count place.check (omega arith) (omega (arith, place.digit))
          (omega (
            arith,
            digit-done,
            digit-whole z s t p.check p.digit place.digit,
            ap (λ d. support_size s p.check * (span s d - 1)) own,
          )))

      -- at the last digit, the lowest that is not skipped
      module _ (lowest : p.digit ≡ z) where
        check_done : count ≡ after_openings (check_start z s (suc p.check))
        check_done =
            digit-done ∙ ap (λ d. after_openings (column_start z s p.check d (support_size s p.check))) lowest
            ∙ ap after_openings (check-end z s t p.check (omega (arith, place.digit)))

        follow-check :
            suc p.check < checks s
            → next_at z s count ≡ Some (place_at (suc p.check) (s.digits - 1) (held_from (matrix s) (suc p.check) 0) 1)
        follow-check more =
            place-next z s t count _
            (first-place z s t (suc p.check) (s.digits - 1) count more (omega (arith, place.digit)) (omega (arith, place.digit))
            (check_done ∙ ap after_openings (sym (check-start z s t (suc p.check)))))

        follow-end : checks s ≤ suc p.check → next_at z s count ≡ None
        follow-end end =
            let all : suc p.check ≡ checks s = omega (arith, place.check) in
            place_end z s t count (omega (arith, check_done ∙ ap (λ ℓ. after_openings (check_start z s ℓ)) all ∙ ap after_openings (checks-end z s t)))

-- ---- .. and whether the digit ends, from what the code finds

module _ {z : ℕ} {s : Shape} {p : Place} {r reach : ℕ} {cs : List ℕ} (lent : MatrixLent s r cs) (at : TestAt z s p reach) where
  told :
      {ends : Bool} {next after : Option Place} → ends_at s p.check p.digit p.column p.factor ≡ ends → next_at z s (suc (index_of z s p)) ≡ after
      → next ≡ after → ◌≡◌ {A = Here} (record { ends = ends; next = next }) (here_at z s (index_of z s p) p)
  told ends law same = λ i. record { ends = sym ends i; next = (same ∙ sym law) i }

  module _ {factor : ℕ} (stepped : factor ≡ next_factor s.radix p.factor) where
    -- the next factor
    pub here-factor :
        factor < reach
        → ◌≡◌ {A = Here} (record { ends = false; next = Some (place_at p.check p.digit p.column factor) }) (here_at z s (index_of z s p) p)
    here-factor more =
        let less : next_factor s.radix p.factor < span s p.digit = omega (arith, at.span) in
        told (factor-more z s lent.taken p at.stands less) (follow-factor z s lent.taken p at.stands less)
        (ap (λ a. Some (place_at p.check p.digit p.column a)) stepped)

    module _ (end : reach ≤ factor) {later : ℕ} (found : later ≡ held_from cs p.check (p.column + 1)) where
      past : span s p.digit ≤ next_factor s.radix p.factor
      past = omega (arith, at.span)

      later_is : later ≡ held_from (matrix s) p.check (suc p.column)
      later_is = found ∙ ap₂ (λ cs i. held_from cs p.check i) lent.matrix (add-one p.column)

      -- the next column
      pub here-column :
          later < length cs
          → ◌≡◌ {A = Here} (record { ends = false; next = Some (place_at p.check p.digit later 1) }) (here_at z s (index_of z s p) p)
      here-column more =
          let some = more-columns z s lent.taken p at.stands (omega (arith, later_is, ap length lent.matrix)) in
          told (column-more z s lent.taken p at.stands some) (follow-column z s lent.taken p at.stands past some)
          (ap (λ j. Some (place_at p.check p.digit j 1)) later_is)

      module _ (none : length cs ≤ later) where
        last : support_size s p.check ≤ suc (rank s p.check p.column)
        last = no-column z s lent.taken p at.stands (omega (arith, later_is, ap length lent.matrix))

        ended : ends_at s p.check p.digit p.column p.factor ≡ true
        ended = digit-ends z s lent.taken p at.stands past last

        -- the next digit
        pub here-digit :
            z < p.digit → {j : ℕ} → j ≡ held_from cs p.check 0
            → ◌≡◌ {A = Here} (record { ends = true; next = Some (place_at p.check (p.digit - 1) j 1) }) (here_at z s (index_of z s p) p)
        here-digit more first =
            told ended (follow-digit z s lent.taken p at.stands past last more)
            (ap (λ j. Some (place_at p.check (p.digit - 1) j 1)) (first ∙ ap (λ cs. held_from cs p.check 0) lent.matrix))

        -- the digit that is not above those skipped is the lowest of the others
        module _ (lowest : p.digit ≤ z) where
          own : p.digit ≡ z
          own = omega (arith, at.stands.unskipped)

          -- the next check row
          pub here-check :
              p.check + 1 < r → {j : ℕ} → j ≡ held_from cs (p.check + 1) 0
              → ◌≡◌ {A = Here} (record { ends = true; next = Some (place_at (p.check + 1) (s.digits - 1) j 1) }) (here_at z s (index_of z s p) p)
          here-check more first =
              told ended (follow-check z s lent.taken p at.stands past last own (omega (arith, lent.checks)))
              (λ i. Some (place_at (add-one p.check i) (s.digits - 1) ((first ∙ ap₂ (λ cs ℓ. held_from cs ℓ 0) lent.matrix (add-one p.check)) i) 1))

          -- the end
          pub here-end : r ≤ p.check + 1 → ◌≡◌ {A = Here} (record { ends = true; next = None }) (here_at z s (index_of z s p) p)
          here-end end = told ended (follow-end z s lent.taken p at.stands past last own (omega (arith, lent.checks))) refl
