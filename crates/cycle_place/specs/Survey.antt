-- Only serves the code's own contracts: what the check matrix, column after column, tells of a check row and a column, and what the functions that
-- count by it ask of their numbers.
use Rattle.std.specs.Prelude.{◌≢◌, List, ℕ, ◌-◌, ◌*◌, ◌%◌, ◌≤◌, ◌<◌, eqb, length, get_or, take}
use Rattle.parity.specs.Lists.{sum_to, first_from}
use Rattle.parity.specs.Matrix.{bit, places_from}
use Rattle.shape.specs.Bounds.{Within}
use Rattle.cycle_place.specs.declared.columns.Survey.{Survey}

-- of check row ℓ and column j: the ones in the check rows before ℓ, those in ℓ, and those in ℓ before j
abbrev pub survey_of : List ℕ → ℕ → ℕ → Survey
survey_of matrix ℓ j =
    record {
      before = sum_to ℓ (λ l. length (places_from 0 l matrix));
      size = length (places_from 0 ℓ matrix);
      rank = length (places_from 0 ℓ (take j matrix));
    }

-- the first column from j on with a one in check row ℓ, or their number where there is none
abbrev pub held_from : List ℕ → ℕ → ℕ → ℕ
held_from matrix ℓ j = first_from (λ i. eqb (bit ℓ (get_or matrix i 0)) 1) (length matrix - j) j

-- ---- what is asked

-- columns of which at most 255 have a one in a check row, and one of 8 check rows
pub record ColumnsLent (column_bytes : List ℕ) (ℓ : ℕ) : Type 0 where
  pub few : (l : ℕ) → length (places_from 0 l column_bytes) ≤ 255
  pub check : ℓ < 8

-- the numbers of a place: q / ρ^z, ρ, a, which ρ does not divide, q / ρ^(s+1), and what the matrix tells
pub record ToIndex (levels ρ a next : ℕ) (survey : Survey) : Type 0 where
  pub span : Within 1 levels 256
  pub radix : 0 < ρ
  pub factor : a < 256
  pub undivided : a % ρ ≢ 0
  pub some : 0 < next
  pub fits : next * ρ ≤ 256
  pub before : survey.before ≤ 2040
  pub size : survey.size ≤ 255
  pub rank : survey.rank ≤ 255
