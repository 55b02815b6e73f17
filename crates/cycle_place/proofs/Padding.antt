-- The check matrix with zeros after it: they hold no one, so what is counted there is what the matrix has. Assumes nothing.
use mathlib.Core.Path.{◌≡◌, refl, sym, ap, ◌∙◌}
use mathlib.Core.List.{List, ◌++◌}
use Prim.Native.Nat.{ℕ, zero, suc, ◌≤◌, ◌<◌}
use native.Mathlib.Omega.{arith}
use lib.ListN.{length, get_or, take, replicate, length-take}
use lib.Pow.{pow_pos}
use lib.Seq.{take_at, take-append-le, get_or-take, length-take-le}
use Rattle.parity.specs.Lists.{sum_over, sum_to}
use Rattle.parity.specs.Matrix.{bit, places_from, matrix}
use Rattle.parity.specs.Shape.{columns}
use Rattle.parity.specs.declared.Shape.{Shape}
use Rattle.parity.proofs.ListLaws.{sum-append}
use Rattle.parity.proofs.MatrixFacts.{matrix_claim}
use Rattle.parity.proofs.MatrixOnes.{places-length}
use Rattle.parity.proofs.Sizes.{columns-high}
use Rattle.parity.proofs.Sums.{bit-beyond}
use Rattle.cycle_place.specs.Survey.{survey_of, ColumnsLent}
use Rattle.cycle_place.specs.Walk.{MatrixLent, PaddedLent}
use Rattle.cycle_place.proofs.CheckRows.{places-high}

zeros-none : (ℓ p : ℕ) → sum_over (replicate p 0) (bit ℓ) ≡ 0
zeros-none ℓ zero = refl
zeros-none ℓ (suc p) = omega (arith, bit-beyond 0 ℓ (pow_pos ℓ), zeros-none ℓ p)

-- the ones of a check row, counted
places-padded : (ℓ : ℕ) (cs : List ℕ) (p : ℕ) → length (places_from 0 ℓ (cs ++ replicate p 0)) ≡ length (places_from 0 ℓ cs)
places-padded ℓ cs p =
    omega (
      arith,
      places-length 0 ℓ (cs ++ replicate p 0),
      places-length 0 ℓ cs,
      sum-append (bit ℓ) cs (replicate p 0),
      zeros-none ℓ p,
    )

survey-padded : (cs : List ℕ) (p ℓ j : ℕ) → j ≤ length cs → survey_of (cs ++ replicate p 0) ℓ j ≡ survey_of cs ℓ j
survey-padded cs p ℓ j h = λ i.
    record {
      before = sum_to ℓ (λ l. places-padded l cs p i);
      size = places-padded ℓ cs p i;
      rank = length (places_from 0 ℓ (take-append-le j cs (replicate p 0) h i));
    }

-- the matrix has its columns
pub matrix-sized : {s : Shape} {r : ℕ} {bytes : List ℕ} → MatrixLent s r bytes → length bytes ≡ columns s
matrix-sized {s = s} lent = ap length lent.matrix ∙ (matrix_claim s lent.taken).sized

module _ {s : Shape} {r n : ℕ} {bytes : List ℕ} (lent : PaddedLent s r n bytes) where
  sized : length (matrix s) ≡ n
  sized = (matrix_claim s lent.taken).sized ∙ sym lent.columns

  front : take n bytes ≡ matrix s
  front = ap (take n) lent.padded ∙ take_at (matrix s) _ n sized

  pub padded-within : n ≤ length bytes
  padded-within = omega (arith, ap length front, sized, length-take n bytes)

  -- the first n bytes, as many as asked for, are the matrix
  pub padded-part : n ≡ length (take n bytes)
  padded-part = sym (length-take-le n bytes padded-within)

  pub padded-matrix : MatrixLent s r (take n bytes)
  padded-matrix = record { taken = lent.taken; checks = lent.checks; matrix = front }

  pub padded-column : (j : ℕ) → j < n → get_or bytes j 0 ≡ get_or (matrix s) j 0
  padded-column j h = sym (get_or-take n bytes j 0 h) ∙ ap (λ cs. get_or cs j 0) front

  pub padded-survey : (ℓ j : ℕ) → j ≤ n → survey_of bytes ℓ j ≡ survey_of (matrix s) ℓ j
  padded-survey ℓ j h =
      ap (λ cs. survey_of cs ℓ j) lent.padded ∙ survey-padded (matrix s) lent.rest ℓ j (omega (arith, sized))

  pub padded-lent : (ℓ : ℕ) → ℓ < 8 → ColumnsLent bytes ℓ
  padded-lent ℓ h =
      record {
        few =
            λ l.
            omega (
              arith,
              ap (λ cs. length (places_from 0 l cs)) lent.padded ∙ places-padded l (matrix s) lent.rest,
              places-high l (matrix s),
              sized,
              lent.columns,
              columns-high s lent.taken,
            );
        check = h;
      }
