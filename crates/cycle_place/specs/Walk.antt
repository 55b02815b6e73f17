-- Only serves the code's own contracts: where a test's place stands in the schedule, and what a step is told at the place after so many lookups.
use Rattle.std.specs.Prelude.{◌≡◌, cond, List, ◌++◌, ℕ, zero, suc, Option, Some, None, replicate}
use Rattle.parity.specs.Shape.{checks as checks_of, columns as columns_of}
use Rattle.parity.specs.Matrix.{matrix as matrix_of}
use Rattle.parity.specs.Questions.{Taken}
use Rattle.parity.specs.declared.Shape.{Shape}
use Rattle.schedule.specs.Schedule.{Entry}
use Rattle.schedule.specs.Index.{IsPlace, span, place_index, ends_at, entry_of}
use Rattle.cycle_place.specs.Places.{next_at, is_place_of}
use Rattle.cycle_place.specs.declared.Place.{Place}
use Rattle.cycle_place.specs.declared.walk.Here.{Here}
use Rattle.cycle_place.specs.declared.walk.Located.{Located}
use Rattle.cycle_place.specs.declared.walk.Located.TheVariants.{Opening, Test, Elsewhere}

-- the place of a test
abbrev pub Stands : ℕ → Shape → Place → Type 0
Stands z s p = IsPlace z s p.check p.digit p.column p.factor

-- as many lookups as tests, and the two openings before them
abbrev pub after_openings : ℕ → ℕ
after_openings c = suc (suc c)

-- how many lookups come before the test at a place: the openings, and the tests before it
abbrev pub index_of : ℕ → Shape → Place → ℕ
index_of z s p = after_openings (place_index z s p.check p.digit p.column p.factor)

-- the place of a test that comes after c other lookups
abbrev pub AtPlace : ℕ → Shape → ℕ → Place → Type 0
AtPlace z s c p = Stands z s p × (index_of z s p ≡ c)

-- the test at a place
abbrev pub test_of : ℕ → Shape → Place → Entry
test_of z s p = entry_of z s p.check p.digit p.column p.factor

-- a test is found at the place of the lookup after c others, with q / ρ^s, and nothing elsewhere
abbrev pub sought_at : ℕ → Shape → ℕ → Place → Option ℕ
sought_at z s c p = cond (is_place_of z s c p) (Some (span s p.digit)) None

-- a test that is next, after c others: whether it is the last of its check row and digit, and the place after it
abbrev pub here_at : ℕ → Shape → ℕ → Place → Here
here_at z s c p = record { ends = ends_at s p.check p.digit p.column p.factor; next = next_at z s (suc c) }

-- what a step is told at the place of the lookup after c others: of the first opening where there are none, of the second where there is one, each with the
-- byte that a row with a sound line gives, else of a test
abbrev pub told_at : ℕ → Shape → ℕ → Place → Located
told_at z s zero p = Opening 1 (next_at z s 1)
told_at z s (suc zero) p = Opening 0 (next_at z s 2)
told_at z s (suc (suc c)) p = Test (here_at z s (suc (suc c)) p)

-- .. and elsewhere nothing
abbrev pub located_at : ℕ → Shape → ℕ → Place → Located
located_at z s c p = cond (is_place_of z s c p) (told_at z s c p) Elsewhere

-- ---- what the walk asks of its arguments

-- a shape taken, its r check columns, and its check matrix, column after column
pub record MatrixLent (s : Shape) (r : ℕ) (column_bytes : List ℕ) : Type 0 where
  pub taken : Taken s
  pub checks : r ≡ checks_of s
  pub matrix : column_bytes ≡ matrix_of s

-- the same with its n columns and zeros after the matrix
pub record PaddedLent (s : Shape) (r n : ℕ) (column_bytes : List ℕ) : Type 0 where
  pub taken : Taken s
  pub checks : r ≡ checks_of s
  pub columns : n ≡ columns_of s
  pub rest : ℕ
  pub padded : column_bytes ≡ matrix_of s ++ replicate rest 0

-- the place of a test, and q / ρ^s
pub record TestAt (z : ℕ) (s : Shape) (p : Place) (reach : ℕ) : Type 0 where
  pub stands : Stands z s p
  pub span : reach ≡ span s p.digit
