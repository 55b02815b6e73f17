-- Only serves the code's own contracts: where a test stands among the tests of a schedule, in closed form, by which a step tells whether a
-- record's place is that of its count.
use Rattle.std.specs.Prelude.{◌≡◌, ◌≢◌, Bool, ◌&&◌, ℕ, suc, ◌+◌, ◌-◌, ◌*◌, ◌/◌, ◌%◌, ◌^◌, ◌≤◌, ◌<◌, eqb, length, get_or, take}
use Rattle.parity.specs.Lists.{sum_to}
use Rattle.parity.specs.Shape.{levels, checks, columns}
use Rattle.parity.specs.Matrix.{bit, matrix, places_from, support}
use Rattle.parity.specs.declared.Shape.{Shape}
use Rattle.schedule.specs.Schedule.{Entry, counts}

-- |J(ℓ)|
unfoldable pub support_size : Shape → ℕ → ℕ
support_size s ℓ = length (support s ℓ)

-- how many columns of J(ℓ) stand before column j
unfoldable pub rank : Shape → ℕ → ℕ → ℕ
rank s ℓ j = length (places_from 0 ℓ (take j (matrix s)))

-- q / ρ^d: the factors of digit d are below it
unfoldable pub span : Shape → ℕ → ℕ
span s d = levels s / s.radix ^ d

-- a place of a test: ℓ, d, j and a within their ranges
pub record IsPlace (z : ℕ) (s : Shape) (ℓ d j a : ℕ) : Type 0 where
  pub check : ℓ < checks s
  pub digit : d < s.digits
  pub unskipped : z ≤ d
  pub column : j < columns s
  pub held : bit ℓ (get_or (matrix s) j 0) ≡ 1
  pub low : 1 ≤ a
  pub high : a < span s d
  pub undivided : a % s.radix ≢ 0

-- how many tests stand before the place
unfoldable pub place_index : ℕ → Shape → ℕ → ℕ → ℕ → ℕ → ℕ
place_index z s ℓ d j a =
    (span s z - 1) * sum_to ℓ (support_size s)
    + support_size s ℓ * (span s (suc d) - 1)
    + rank s ℓ j * (span s d - span s (suc d))
    + (a - 1 - (a - 1) / s.radix)

-- whether the place is the last of its ℓ and d
unfoldable pub ends_at : Shape → ℕ → ℕ → ℕ → ℕ → Bool
ends_at s ℓ d j a = eqb (suc (rank s ℓ j)) (support_size s ℓ) && eqb (suc a) (span s d)

-- the test of a place
abbrev pub entry_of : ℕ → Shape → ℕ → ℕ → ℕ → ℕ → Entry
entry_of z s ℓ d j a =
    record {
      check = ℓ;
      digit = d;
      column = j;
      factor = a;
      kind = counts;
      flags = ends_at s ℓ d j a;
      resets = ends_at s ℓ d j a && eqb d z;
    }
