-- `cycle_place::walk::count_before` meets its contract: from the spans and the survey of the check matrix it makes the index of the place.
-- Assumes nothing.
use mathlib.Core.Path.{◌≡◌, refl, sym, ap, ◌∙◌}
use mathlib.Core.List.{List}
use Prim.Native.Nat.{ℕ, suc, ◌+◌, ◌-◌, ◌*◌, ◌/◌, ◌^◌, ◌≤◌}
use native.Mathlib.Omega.{arith}
use Rattle.parity.specs.Matrix.{matrix, support}
use Rattle.parity.specs.Shape.{checks, columns}
use Rattle.parity.specs.declared.Shape.{Shape}
use Rattle.parity.proofs.Longest.{lookups-high}
use Rattle.schedule.specs.Index.{support_size, rank, span, place_index}
use Rattle.cycle_place.specs.Survey.{survey_of, ColumnsLent}
use Rattle.cycle_place.specs.Walk.{Stands, PaddedLent}
use Rattle.cycle_place.specs.declared.Place.{Place}
use Rattle.cycle_place.specs.declared.columns.Survey.{Survey}
use Rattle.cycle_place.proofs.CheckRows.{rows-high, before-high}
use Rattle.cycle_place.proofs.Padding.{padded-within, padded-survey, padded-lent}
use Rattle.cycle_place.proofs.Spans.{span-high, span-times, span-down, span_less}
use Rattle.cycle_place.proofs.Places.{place-entry}
use Rattle.cycle_place.proofs.Standing.{radix_some, check_high, factor_high}
use Rattle.cycle_place.proofs.walk.count_before.Goals as goal

-- no number of a survey is above 255 for each check row
survey-high :
    {cs : List ℕ} {ℓ : ℕ} (lent : ColumnsLent cs ℓ) (j : ℕ) {v : Survey} → v ≡ survey_of cs ℓ j → (v.before ≤ 2040) × (v.size ≤ 255) × (v.rank ≤ 255)
survey-high {cs = cs} {ℓ = ℓ} lent j e =
    omega (
      arith,
      ap (λ v. v.before) e,
      ap (λ v. v.size) e,
      ap (λ v. v.rank) e,
      rows-high cs lent.few ℓ,
      lent.check,
      lent.few ℓ,
      before-high cs ℓ j,
    )

module _ {z : ℕ} {s : Shape} {p : Place} {bytes : List ℕ} (lent : PaddedLent s (checks s) (columns s) bytes) (place : Stands z s p) where
  -- the bounds of the matrix's passes
  rows-few : ColumnsLent bytes p.check
  rows-few = padded-lent lent p.check (check_high lent.taken place)

  -- the span of the own digit, and that of the digit z from it
  own-span : {next : ℕ} → next ≡ span s (suc p.digit) → next * s.radix ≡ span s p.digit
  own-span e = ap (λ x. x * s.radix) e ∙ sym (span-times s lent.taken p.digit place.digit)

  reach : {next : ℕ} → next ≡ span s (suc p.digit) → next * s.radix * s.radix ^ (p.digit - z) ≡ span s z
  reach e = ap (λ x. x * s.radix ^ (p.digit - z)) (own-span e) ∙ span-down s lent.taken p.digit place.digit z place.unskipped

  surveyed : {v : Survey} → v ≡ survey_of bytes p.check p.column → v ≡ survey_of (matrix s) p.check p.column
  surveyed read = read ∙ padded-survey lent p.check p.column (omega (arith, place.column))

  -- the tests before the place, as the code counts them
  counted :
      {next levels given : ℕ} {v : Survey} → next ≡ span s (suc p.digit)
      → given ≡ (levels - 1) * v.before + v.size * (next - 1) + v.rank * (next * s.radix - next) + (p.factor - 1 - (p.factor - 1) / s.radix)
      → levels ≡ next * s.radix * s.radix ^ (p.digit - z) → v ≡ survey_of bytes p.check p.column
      → given ≡ place_index z s p.check p.digit p.column p.factor
  unfolding place_index support_size rank support
  counted e result made read =
      let levels = made ∙ reach e in
      let whole = own-span e in
      let v = surveyed read in
      result
      ∙ (λ i. (levels i - 1) * (v i).before + (v i).size * (e i - 1) + (v i).rank * (whole i - e i) + (p.factor - 1 - (p.factor - 1) / s.radix))

pub survey_check-survey-requires-clause-columns_lent : goal.survey_check-survey-requires-clause-columns_lent
survey_check-survey-requires-clause-columns_lent c = rows-few c.requires.padded_lent c.requires.stands

pub survey_check-survey-requires-clause-column_in_bounds : goal.survey_check-survey-requires-clause-column_in_bounds
survey_check-survey-requires-clause-column_in_bounds c = omega (arith, padded-within c.requires.padded_lent, c.requires.stands.column)

pub overflow_mul-next : goal.overflow_mul-next
overflow_mul-next c =
    let pre = c.requires in
    omega (arith, own-span pre.padded_lent pre.stands pre.next_value, span-high c.args.shape pre.padded_lent.taken c.args.place.digit)

pub scale-levels-requires-clause-radix_nonzero : goal.scale-levels-requires-clause-radix_nonzero
scale-levels-requires-clause-radix_nonzero c = radix_some c.args.shape c.requires.padded_lent.taken

-- q / ρ^z is at most 256
pub scale-levels-requires-clause-exponent_bound : goal.scale-levels-requires-clause-exponent_bound
scale-levels-requires-clause-exponent_bound c =
    let pre = c.requires in
    omega (arith, reach pre.padded_lent pre.stands pre.next_value, span-high c.args.shape pre.padded_lent.taken c.args.skip)

pub index_of-requires : goal.index_of-requires
index_of-requires c =
    let s = c.args.shape in
    let pre = c.requires in
    let lent = pre.padded_lent in
    let place = pre.stands in
    let t = lent.taken in
    let reached = c.scale-levels.ensures ∙ reach lent place pre.next_value in
    let counts = survey-high (rows-few lent place) c.args.place.column c.survey_check-survey.ensures in
    record {
      span =
          record {
            low = omega (arith, reached, span_less s t c.args.skip (omega (arith, place.digit, place.unskipped)));
            high = omega (arith, reached, span-high s t c.args.skip);
          };
      radix = radix_some s t;
      factor = factor_high t place;
      undivided = place.undivided;
      some = omega (arith, pre.next_value, span_less s t c.args.place.digit place.digit);
      fits = omega (arith, own-span lent place pre.next_value, span-high s t c.args.place.digit);
      before = counts.0;
      size = counts.1;
      rank = counts.2;
    }

-- the index is below the cycle's length
pub overflow_add-result : goal.overflow_add-result
overflow_add-result c =
    let s = c.args.shape in
    let pre = c.requires in
    let t = pre.padded_lent.taken in
    let count = counted pre.padded_lent pre.stands pre.next_value c.index_of.ensures c.scale-levels.ensures c.survey_check-survey.ensures in
    omega (arith, count, (place-entry c.args.skip s t _ c.args.place (pre.stands, refl)).0, lookups-high c.args.skip s t)

pub returns : goal.returns
returns c =
    let pre = c.requires in
    let count = counted pre.padded_lent pre.stands pre.next_value c.index_of.ensures c.scale-levels.ensures c.survey_check-survey.ensures in
    (pre.stands, omega (arith, count))
