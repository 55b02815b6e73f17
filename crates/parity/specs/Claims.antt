-- The theorems on shapes, check matrix and code, as types; proofs/ proves each, for all ρ, b, τ, k within the limits.
use Rattle.std.specs.Prelude.{◌≡◌, ◌↔◌, ◌≢◌, ◌⊎◌, true, List, ◌++◌, ℕ, suc, ◌%◌, ◌^◌, ◌≤◌, ◌<◌, length, get_or, take}
use Rattle.parity.specs.Lists.{differences}
use Rattle.parity.specs.Shape.{levels, largest, checks, columns}
use Rattle.parity.specs.Matrix.{weight, column_order, eligible, rule_columns, matrix, lookups}
use Rattle.parity.specs.Codeword.{Codeword, is_codeword, encode}
use Rattle.parity.specs.Questions.{Taken}
use Rattle.parity.specs.declared.Shape.{Shape}

-- the cells in the first k places are below q
abbrev pub Below : ℕ → ℕ → List ℕ → Type 0
Below q k row = (j : ℕ) → j < k → get_or row j 0 < q

-- The test of a sound row passes exactly the paper's sound rows, for every shape and every row.
abbrev pub CodewordClaim : Type 0
CodewordClaim = (s : Shape) (row : List ℕ) → (is_codeword s row ≡ true) ↔ Codeword s row

-- Demand 2: a row of n cells is sound exactly when it is what programming its own rule cells, all below q, would write.
abbrev pub EncodingClaim : Type 0
EncodingClaim =
    (s : Shape) → Taken s → (row : List ℕ) → length row ≡ columns s
    → Codeword s row ↔ ((row ≡ encode s (take s.width row)) × Below (levels s) s.width row)

-- So encoding gives a sound row ..
abbrev pub EncodedClaim : Type 0
EncodedClaim = (s : Shape) → Taken s → (rule : List ℕ) → length rule ≡ s.width → Below (levels s) s.width rule → Codeword s (encode s rule)

-- .. and its check cells are the only ones that do.
abbrev pub OnlyClaim : Type 0
OnlyClaim = (s : Shape) → Taken s → (rule check : List ℕ) → length rule ≡ s.width → Codeword s (rule ++ check) → rule ++ check ≡ encode s rule

-- Distance: two sound rows of one shape that differ in at most τ cells are equal.
abbrev pub DistanceClaim : Type 0
DistanceClaim = (s : Shape) → Taken s → (x y : List ℕ) → Codeword s x → Codeword s y → differences x y ≤ s.errors → x ≡ y

-- c stands in the list
abbrev pub Among : ℕ → List ℕ → Type 0
Among c cs = (i : ℕ) × (i < length cs) × (get_or cs i 0 ≡ c)

-- the document's order of columns: fewest ones first, and increasing among equals
abbrev pub Precedes : ℕ → ℕ → Type 0
Precedes c d = (weight c < weight d) ⊎ ((weight c ≡ weight d) × (c < d))

-- each entry precedes those after it; so no column stands twice
abbrev pub Ordered : List ℕ → Type 0
Ordered cs = (i j : ℕ) → i < j → j < length cs → Precedes (get_or cs i 0) (get_or cs j 0)

-- The column order has 255 entries, each nonzero byte among them, once and in the document's order.
pub record OrderClaim : Type 0 where
  pub sized : length column_order ≡ 255
  pub bytes : (i : ℕ) → i < 255 → (0 < get_or column_order i 0) × (get_or column_order i 0 < 256)
  pub complete : (c : ℕ) → 0 < c → c < 256 → Among c column_order
  pub ordered : Ordered column_order

-- the rule columns of a shape: k of them, of the right kind and below 2^r, in the document's order, and no eligible column that is left out comes
-- before one that is taken
pub record RightRules (s : Shape) : Type 0 where
  pub sized : length (rule_columns s.errors (checks s) s.width) ≡ s.width
  pub kind : (i : ℕ) → i < s.width → eligible s.errors (checks s) (get_or (rule_columns s.errors (checks s) s.width) i 0) ≡ true
  pub ordered : Ordered (rule_columns s.errors (checks s) s.width)
  pub lightest :
      (c : ℕ) → 0 < c → eligible s.errors (checks s) c ≡ true
      → Among c (rule_columns s.errors (checks s) s.width)
      ⊎ ((i : ℕ) → i < s.width → Precedes (get_or (rule_columns s.errors (checks s) s.width) i 0) c)

-- Of every shape taken, where τ is 2 or 3.
abbrev pub RuleColumnsClaim : Type 0
RuleColumnsClaim = (s : Shape) → Taken s → 2 ≤ s.errors → RightRules s

-- the check matrix of a shape, rule columns and check columns together: n columns, none 0, below 2^r; for τ = 1 all 1, else no two equal, and for
-- τ = 3 each with an odd count of ones
pub record RightMatrix (s : Shape) : Type 0 where
  pub sized : length (matrix s) ≡ columns s
  pub nonzero : (j : ℕ) → j < columns s → 0 < get_or (matrix s) j 0
  pub in_checks : (j : ℕ) → j < columns s → get_or (matrix s) j 0 < 2 ^ checks s
  pub ones : s.errors ≡ 1 → (j : ℕ) → j < columns s → get_or (matrix s) j 0 ≡ 1
  pub distinct : 2 ≤ s.errors → (i j : ℕ) → i < j → j < columns s → get_or (matrix s) i 0 ≢ get_or (matrix s) j 0
  pub odd : s.errors ≡ 3 → (j : ℕ) → j < columns s → weight (get_or (matrix s) j 0) % 2 ≡ 1

-- Of every shape taken.
abbrev pub MatrixClaim : Type 0
MatrixClaim = (s : Shape) → Taken s → RightMatrix s

-- r is from 1 to 8, carries k, and no smaller number from 1 on does
pub record LeastChecks (s : Shape) : Type 0 where
  pub low : 1 ≤ checks s
  pub high : checks s ≤ 8
  pub carries : s.width ≤ largest s.errors (checks s)
  pub least : (r : ℕ) → 1 ≤ r → r < checks s → largest s.errors r < s.width

-- Of every shape taken.
abbrev pub RedundancyClaim : Type 0
RedundancyClaim = (s : Shape) → Taken s → LeastChecks s

-- the largest shape: 256 levels, and the 247 rule columns that 8 check columns carry for τ = 2
abbrev pub longest_shape : Shape
longest_shape = record { radix = 2; digits = 8; errors = 2; width = 247; rows = 1 }

-- the lookups of the longest cycle, 255 for each of 1,024 ones, and its steps with the two openings
abbrev pub most_lookups : ℕ
most_lookups = 261120

abbrev pub most_steps : ℕ
most_steps = suc (suc most_lookups)

-- The longest cycle: on no shape taken has a cycle more lookups, and the largest has as many where no digit is skipped.
pub record LongestClaim : Type 0 where
  pub most : (z : ℕ) (s : Shape) → Taken s → lookups z s ≤ most_lookups
  pub taken : Taken longest_shape
  pub reached : lookups 0 longest_shape ≡ most_lookups
