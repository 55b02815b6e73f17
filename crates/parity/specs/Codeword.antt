-- A sound row (the paper's and the field's word: codeword) and the encoder's row.
use Rattle.std.specs.Prelude.{◌≡◌, Bool, ◌&&◌, List, ◌++◌, ℕ, ◌-◌, ◌*◌, ◌%◌, ◌^◌, ◌<◌, eqb, ltb, length, get_or}
use Rattle.parity.specs.Lists.{tabulate, every, every_to, sum_over, sum_to}
use Rattle.parity.specs.Shape.{digit, levels, checks, columns}
use Rattle.parity.specs.Matrix.{rule_columns, places_from, support}
use Rattle.parity.specs.declared.Shape.{Shape}

-- the digits s of the cells in the places js, added up
abbrev pub digit_sum : ℕ → ℕ → List ℕ → List ℕ → ℕ
digit_sum ρ s js row = sum_over js (λ j. digit ρ s (get_or row j 0))

-- A row is sound when all its cells are below q and, for each ℓ and each s, the digits s of its cells in J(ℓ) sum to 0 mod ρ.
pub record Codeword (shape : Shape) (row : List ℕ) : Type 0 where
  pub sized : length row ≡ columns shape
  pub below : (j : ℕ) → j < columns shape → get_or row j 0 < levels shape
  pub balanced : (ℓ s : ℕ) → ℓ < checks shape → s < shape.digits → digit_sum shape.radix s (support shape ℓ) row % shape.radix ≡ 0

-- the same as a test; the two are tied by `CodewordClaim` (Claims.antt)
unfoldable pub is_codeword : Shape → List ℕ → Bool
is_codeword shape row =
    eqb (length row) (columns shape)
    && every (λ v. ltb v (levels shape)) row
    && every_to (checks shape) (λ ℓ. every_to shape.digits (λ s. eqb (digit_sum shape.radix s (support shape ℓ) row % shape.radix) 0))

-- the level whose digit s is e s, for s below b
unfoldable pub number : ℕ → ℕ → (ℕ → ℕ) → ℕ
number ρ b e = sum_to b (λ s. e s * ρ ^ s)

-- digit s of check cell ℓ: what brings the digits s of the rule cells in J(ℓ) to 0 mod ρ
unfoldable pub check_digit : Shape → List ℕ → ℕ → ℕ → ℕ
check_digit shape rule ℓ s =
    (shape.radix - digit_sum shape.radix s (places_from 0 ℓ (rule_columns shape.errors (checks shape) shape.width)) rule % shape.radix) % shape.radix

-- check cell ℓ of a row with these rule cells
unfoldable pub check_cell : Shape → List ℕ → ℕ → ℕ
check_cell shape rule ℓ = number shape.radix shape.digits (check_digit shape rule ℓ)

-- the row that programming writes: the k levels and then the check cells
unfoldable pub encode : Shape → List ℕ → List ℕ
encode shape rule = rule ++ tabulate (checks shape) (check_cell shape rule)
