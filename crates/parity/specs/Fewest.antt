-- Document 02, Card 10: of all choices of rule columns beside r check columns, ours has the fewest ones. The theorems as types.
use Rattle.std.specs.Prelude.{◌≡◌, ◌≢◌, true, List, [], ◌∷◌, ◌++◌, map, ℕ, ◌-◌, ◌*◌, ◌/◌, ◌^◌, ◌≤◌, ◌<◌, length, get_or}
use Rattle.parity.specs.Lists.{sum_over}
use Rattle.parity.specs.Shape.{levels, checks}
use Rattle.parity.specs.Matrix.{weight, eligible, rule_columns, check_columns, matrix, matrix_ones, ones_of, lookups}
use Rattle.parity.specs.Questions.{Taken}
use Rattle.parity.specs.declared.Shape.{Shape}

-- a choice of k rule columns beside r check columns: each can be one, and no two are equal
pub record Choice (τ r k : ℕ) (cs : List ℕ) : Type 0 where
  pub sized : length cs ≡ k
  pub kind : (i : ℕ) → i < k → eligible τ r (get_or cs i 0) ≡ true
  pub distinct : (i j : ℕ) → i < j → j < k → get_or cs i 0 ≢ get_or cs j 0

-- our k rule columns are a choice too, so there are k of them, and they have at most as many ones as these
pub record Fewest (τ r k : ℕ) (cs : List ℕ) : Type 0 where
  pub ours : Choice τ r k (rule_columns τ r k)
  pub ones : sum_over (rule_columns τ r k) weight ≤ sum_over cs weight

-- Of every choice for τ = 2 and τ = 3, for every k and every r up to 8, not only the least that carries k.
abbrev pub FewestClaim : Type 0
FewestClaim = (τ r k : ℕ) → 2 ≤ τ → τ ≤ 3 → r ≤ 8 → (cs : List ℕ) → Choice τ r k cs → Fewest τ r k cs

-- the ones of a check matrix: these rule columns, and then the r check columns
abbrev pub ones_beside : ℕ → List ℕ → ℕ
ones_beside r cs = ones_of r (cs ++ check_columns r)

-- W, and the lookups of a cycle that skips the z lowest digits, are at most those of the check matrix with these rule columns
pub record FewestLookups (s : Shape) (cs : List ℕ) : Type 0 where
  pub ones : matrix_ones s ≤ ones_beside (checks s) cs
  pub cycle : (z : ℕ) → lookups z s ≤ (levels s / s.radix ^ z - 1) * ones_beside (checks s) cs

-- The same in the paper's terms, of every shape taken and every choice beside its check columns; W is the ones of the shape's own matrix, counted so.
pub record FewestLookupsClaim : Type 0 where
  pub counted : (s : Shape) → ones_of (checks s) (matrix s) ≡ matrix_ones s
  pub fewest : (s : Shape) → Taken s → 2 ≤ s.errors → (cs : List ℕ) → Choice s.errors (checks s) s.width cs → FewestLookups s cs

-- For one r alone: for τ = 2, 50 columns have fewer ones beside 7 or 8 check columns than beside 6 (the paper's footnote 6), and 26 beside 6 than beside 5.
pub record AcrossClaim : Type 0 where
  pub fifty : map (λ r. ones_beside r (rule_columns 2 r 50)) (6 ∷ 7 ∷ 8 ∷ []) ≡ 156 ∷ 136 ∷ 130 ∷ []
  pub twenty_six : map (λ r. ones_beside r (rule_columns 2 r 26)) (5 ∷ 6 ∷ []) ≡ 80 ∷ 69 ∷ []

-- The claim is not empty: another choice for τ = 2 has 7 ones and ours 6, another for τ = 3 has 8 and ours 6.
pub record ChoiceExamplesClaim : Type 0 where
  pub two : Choice 2 3 3 (7 ∷ 6 ∷ 5 ∷ [])
  pub three : Choice 3 5 2 (31 ∷ 7 ∷ [])
  pub ones : map (λ cs. sum_over cs weight) ((7 ∷ 6 ∷ 5 ∷ []) ∷ rule_columns 2 3 3 ∷ (31 ∷ 7 ∷ []) ∷ rule_columns 3 5 2 ∷ []) ≡ 7 ∷ 6 ∷ 8 ∷ 6 ∷ []
