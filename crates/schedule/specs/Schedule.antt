-- Document 01, "Schedule": the lookups of a detection cycle (the paper's test vectors), in their order. A cycle skips a number z of low digits
-- (document 02, Card 2), and opens with the all-zero vector (Card 4) and with q in column 0 (Card 7); where z is 0 the tests after these openings are
-- document 01's.
use Rattle.std.specs.Prelude.{Bool, true, false, cond, not, List, [], ◌∷◌, ◌++◌, map, ℕ, suc, ◌-◌, ◌*◌, ◌/◌, ◌%◌, ◌^◌, eqb}
use Rattle.parity.specs.Lists.{tabulate, joined, keep}
use Rattle.parity.specs.Shape.{levels, checks, columns}
use Rattle.parity.specs.Matrix.{support}
use Rattle.parity.specs.declared.Shape.{Shape}

-- What is done with the match bytes of a lookup.
pub data Kind : Type 0 where
  -- An opening: every row with a sound line gives this byte. Rows that give the other are to be flagged, and nothing is counted.
  opens : ℕ → Kind
  -- A test: the match bytes are counted, and rows whose counter isn't 0 are to be flagged.
  counts : Kind

-- One lookup of the schedule: what is fed, and what is done with the match bytes.
pub record Entry : Type 0 where
  -- ℓ, s, j and a: the vector is a × ρ^s in column j and 0 elsewhere
  pub check : ℕ
  pub digit : ℕ
  pub column : ℕ
  pub factor : ℕ
  pub kind : Kind
  -- Whether rows are flagged now: at an opening, and at the last entry of each s.
  pub flags : Bool
  -- Whether counters return to 0 after that: at the last entry of each ℓ.
  pub resets : Bool

-- each a from 1 below q / ρ^s that ρ does not divide, increasing
unfoldable pub factors : Shape → ℕ → List ℕ
factors shape s = keep (λ a. not (eqb (a % shape.radix) 0)) (tabulate (levels shape / shape.radix ^ s - 1) suc)

-- f at each element, one list after the other
abbrev pub over_each {ℓ} : {A : Type ℓ} → List ℕ → (ℕ → List A) → List A
over_each [] f = []
over_each (x ∷ xs) f = f x ++ over_each xs f

-- the last element changed
abbrev pub at_last {ℓ} : {A : Type ℓ} → (A → A) → List A → List A
at_last f [] = []
at_last f (x ∷ []) = f x ∷ []
at_last f (x ∷ y ∷ ys) = x ∷ at_last f (y ∷ ys)

-- a test that counts and no more
abbrev pub within : ℕ → ℕ → ℕ → ℕ → Entry
within ℓ s j a = record { check = ℓ; digit = s; column = j; factor = a; kind = counts; flags = false; resets = false }

-- the same as the last of its s: it flags, and it resets where s is z, the last of its ℓ
abbrev pub ending : ℕ → Entry → Entry
ending z e =
    record { check = e.check; digit = e.digit; column = e.column; factor = e.factor; kind = e.kind; flags = true; resets = eqb e.digit z }

-- the entries of one ℓ and s over a list of columns: each j of these, within it each a
unfoldable pub of_digit : ℕ → Shape → ℕ → List ℕ → ℕ → List Entry
of_digit z shape ℓ js s = at_last (ending z) (over_each js (λ j. map (within ℓ s j) (factors shape s)))

-- a sweep over a list of columns: s from b − 1 down to z
unfoldable pub sweep : ℕ → Shape → ℕ → List ℕ → List Entry
sweep z shape ℓ js = joined (shape.digits - z) (λ i. of_digit z shape ℓ js (shape.digits - suc i))

-- the entries of one ℓ: a sweep over J(ℓ), its columns increasing
unfoldable pub of_check : ℕ → Shape → ℕ → List Entry
of_check z shape ℓ = sweep z shape ℓ (support shape ℓ)

-- the tests: ℓ from 0 up; from z = b on there is none
unfoldable pub tests : ℕ → Shape → List Entry
tests z shape = joined (checks shape) (of_check z shape)

-- an opening that feeds a × ρ^s to column 0, and to which every row with a sound line gives this byte
abbrev pub opening : ℕ → ℕ → ℕ → Entry
opening byte s a = record { check = 0; digit = s; column = 0; factor = a; kind = opens byte; flags = true; resets = false }

-- the first: the all-zero vector, which is 0 × ρ^0 in column 0 and 0 elsewhere; every row with a sound line matches it, and no dead one does
abbrev pub dead_opening : Entry
dead_opening = opening 1 0 0

-- the second: q, which is 1 × ρ^b, in column 0 and 0 elsewhere, whatever digits are skipped; no row with a sound line matches it, and every shorted one does
abbrev pub shorted_opening : Shape → Entry
shorted_opening shape = opening 0 shape.digits 1

abbrev pub openings : Shape → List Entry
openings shape = dead_opening ∷ shorted_opening shape ∷ []

-- the whole schedule
unfoldable pub schedule : ℕ → Shape → List Entry
schedule z shape = openings shape ++ tests z shape

-- the vector with x in column j and 0 elsewhere
unfoldable pub unit_vector : ℕ → ℕ → ℕ → List ℕ
unit_vector n j x = tabulate n (λ i. cond (eqb i j) x 0)

-- the test vector of an entry
unfoldable pub test_vector : Shape → Entry → List ℕ
test_vector shape e = unit_vector (columns shape) e.column (e.factor * shape.radix ^ e.digit)
