-- Document 01, "Check matrix" (the paper's parity-check matrix H): a column is a number whose bit ℓ says whether it has a one in check row ℓ.
use Rattle.std.specs.Prelude.{Bool, cond, ◌&&◌, List, [], ◌∷◌, ◌++◌, ℕ, suc, ◌-◌, ◌*◌, ◌/◌, ◌%◌, ◌^◌, eqb, leb, ltb, length, take, replicate}
use Rattle.parity.specs.Lists.{tabulate, joined, keep, sum_to}
use Rattle.parity.specs.Shape.{digit, levels, checks}
use Rattle.parity.specs.declared.Shape.{Shape}

-- bit ℓ of a column
abbrev pub bit : ℕ → ℕ → ℕ
bit ℓ c = digit 2 ℓ c

-- the ones of a byte (its Hamming weight)
unfoldable pub weight : ℕ → ℕ
weight c = sum_to 8 (λ ℓ. bit ℓ c)

-- the bytes 1 to 255 with w ones, increasing
unfoldable pub of_weight : ℕ → List ℕ
of_weight w = keep (λ c. eqb (weight c) w) (tabulate 255 suc)

-- the 255 nonzero bytes, fewest ones first, and increasing among equals
unfoldable pub column_order : List ℕ
column_order = joined 8 (λ w. of_weight (suc w))

-- the columns that can be rule columns beside r check columns, for τ = 2 and τ = 3
unfoldable pub eligible : ℕ → ℕ → ℕ → Bool
eligible τ r c = ltb c (2 ^ r) && cond (eqb τ 2) (leb 2 (weight c)) (leb 3 (weight c) && eqb (weight c % 2) 1)

-- the k rule columns beside r check columns
unfoldable pub rule_columns : ℕ → ℕ → ℕ → List ℕ
rule_columns τ r k = cond (eqb τ 1) (replicate k 1) (take k (keep (eligible τ r) column_order))

-- the r check columns
unfoldable pub check_columns : ℕ → List ℕ
check_columns r = tabulate r (λ ℓ. 2 ^ ℓ)

-- the check matrix of a shape, column after column
unfoldable pub matrix : Shape → List ℕ
matrix s = rule_columns s.errors (checks s) s.width ++ check_columns (checks s)

-- the places of the columns with bit ℓ set, increasing, where the first column's place is j
abbrev pub places_from : ℕ → ℕ → List ℕ → List ℕ
places_from j ℓ [] = []
places_from j ℓ (c ∷ cs) = cond (eqb (bit ℓ c) 1) (j ∷ places_from (suc j) ℓ cs) (places_from (suc j) ℓ cs)

-- J(ℓ), the support of check row ℓ
unfoldable pub support : Shape → ℕ → List ℕ
support s ℓ = places_from 0 ℓ (matrix s)

-- W, the ones of the check matrix
unfoldable pub matrix_ones : Shape → ℕ
matrix_ones s = sum_to (checks s) (λ ℓ. length (support s ℓ))

-- the ones of any matrix with r check rows (the paper's ‖H‖), counted in the same way
unfoldable pub ones_of : ℕ → List ℕ → ℕ
ones_of r cs = sum_to r (λ ℓ. length (places_from 0 ℓ cs))

-- the lookups of a detection cycle that skips the z lowest digits: (q / ρ^z − 1) × W
unfoldable pub lookups : ℕ → Shape → ℕ
lookups z s = (levels s / s.radix ^ z - 1) * matrix_ones s

-- the steps of such a cycle: its two openings (document 02, Cards 4 and 7), and then the lookups
abbrev pub cycle_steps : ℕ → Shape → ℕ
cycle_steps z s = suc (suc (lookups z s))
