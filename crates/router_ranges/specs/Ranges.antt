-- Document 02, Card 6: a belt rule has a range of values for each feature. Two columns stand for a feature: in a rule for the ends of its range, in a bottle
-- for its value.
use Rattle.std.specs.Prelude.{Bool, ◌&&◌, List, [], ◌∷◌, ℕ, suc, ◌-◌, ◌*◌, ◌/◌, leb, length, get_or}
use Rattle.parity.specs.Lists.{tabulate, every_to}
use Rattle.parity.specs.declared.Shape.{Shape}

-- f, the features of a rule
unfoldable pub features : Shape → ℕ
features s = s.width / 2

-- ---- rules and bottles

-- the low and the high of each feature
pub record Ranges : Type 0 where
  pub lows : List ℕ
  pub highs : List ℕ

abbrev pub ranges_of : List ℕ → List ℕ → Ranges
ranges_of lows highs = record { lows = lows; highs = highs }

-- a rule: its ranges, and the belt for the bottles that are in all of them
pub record Rule : Type 0 where
  pub ranges : Ranges
  pub belt : ℕ

abbrev pub rule_of : List ℕ → List ℕ → ℕ → Rule
rule_of lows highs belt = record { ranges = ranges_of lows highs; belt = belt }

-- a value that is in a range, both ends included
abbrev pub in_range : ℕ → ℕ → ℕ → Bool
in_range low high x = leb low x && leb x high

-- ranges that hold a bottle: each of its values, one for each feature, is in its range
unfoldable pub holds : Ranges → List ℕ → Bool
holds ranges values = every_to (length values) (λ i. in_range (get_or ranges.lows i 0) (get_or ranges.highs i 0) (get_or values i 0))

-- ---- what stands for them in the columns

-- in columns 2i and 2i + 1 the i-th of the first numbers, and what the i-th of the second leaves of the top level
abbrev pub paired : ℕ → List ℕ → List ℕ → List ℕ
paired top [] ys = []
paired top (x ∷ xs) [] = []
paired top (x ∷ xs) (y ∷ ys) = x ∷ (top - y) ∷ paired top xs ys

-- the levels of a rule: high, and q − 1 − low
unfoldable pub rule_levels : ℕ → Ranges → List ℕ
rule_levels q ranges = paired (q - 1) ranges.highs ranges.lows

-- the inputs of a bottle: its value x, and q − 1 − x
unfoldable pub bottle_inputs : ℕ → List ℕ → List ℕ
bottle_inputs q values = paired (q - 1) values values

-- the ranges of f features that stand in a row's cells: high in column 2i, and q − 1 − low in column 2i + 1
unfoldable pub ranges_in : ℕ → ℕ → List ℕ → Ranges
ranges_in q f cells = ranges_of (tabulate f (λ i. q - 1 - get_or cells (suc (2 * i)) 0)) (tabulate f (λ i. get_or cells (2 * i) 0))
