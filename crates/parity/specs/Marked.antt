-- Document 01, "Marked rows and shapes": M1 to M8 as rows of one table.
use Rattle.std.specs.Prelude.{◌≡◌, List, [], ◌∷◌, ◌++◌, ℕ, ◌<◌}
use Rattle.parity.specs.Lists.{differences}
use Rattle.parity.specs.Shape.{checks}
use Rattle.parity.specs.Matrix.{matrix_ones, lookups}
use Rattle.parity.specs.Codeword.{Codeword, encode}
use Rattle.parity.specs.Questions.{shape_refusal}
use Rattle.parity.specs.declared.Shape.{Shape}

-- what a row of the table says
pub data Marked : Type 0 where
  -- these rule cells take these check cells
  takes : Shape → List ℕ → List ℕ → Marked
  sound unsound : Shape → List ℕ → Marked
  -- these two rows differ in so many cells, which are more than τ
  differ : Shape → List ℕ → List ℕ → ℕ → Marked
  -- W, the lookups of a cycle that skips no digit, and r
  ones_are lookups_are checks_are : Shape → ℕ → Marked
  -- the first question that the shape fails, 0 if none
  refused_by : Shape → ℕ → Marked

abbrev pub Holds : Marked → Type 0
Holds (takes s rule check) = encode s rule ≡ rule ++ check
Holds (sound s row) = Codeword s row
Holds (unsound s row) = Codeword s row → ⊥
Holds (differ s x y cells) = (differences x y ≡ cells) × (s.errors < cells)
Holds (ones_are s w) = matrix_ones s ≡ w
Holds (lookups_are s c) = lookups 0 s ≡ c
Holds (checks_are s r) = checks s ≡ r
Holds (refused_by s n) = shape_refusal s ≡ n

abbrev pub AllHold : List Marked → Type 0
AllHold [] = Unit {0}
AllHold (m ∷ ms) = Holds m × AllHold ms

-- a shape of one row
abbrev pub shape_of : ℕ → ℕ → ℕ → ℕ → Shape
shape_of ρ b τ k = record { radix = ρ; digits = b; errors = τ; width = k; rows = 1 }

unfoldable pub marked_rows : List Marked
marked_rows =
    -- M1
    takes (shape_of 2 3 1 3) (5 ∷ 2 ∷ 1 ∷ []) (6 ∷ [])
    -- M2, two cells off M1, more than τ
    ∷ sound (shape_of 2 3 1 3) (4 ∷ 3 ∷ 1 ∷ 6 ∷ [])
    ∷ differ (shape_of 2 3 1 3) (5 ∷ 2 ∷ 1 ∷ 6 ∷ []) (4 ∷ 3 ∷ 1 ∷ 6 ∷ []) 2
    -- M3
    ∷ unsound (shape_of 2 3 1 3) (5 ∷ 2 ∷ 0 ∷ 6 ∷ [])
    -- M4
    ∷ takes (shape_of 3 2 1 2) (5 ∷ 8 ∷ []) (2 ∷ [])
    -- M5
    ∷ takes (shape_of 10 2 2 1) (37 ∷ []) (73 ∷ 73 ∷ [])
    ∷ takes (shape_of 10 2 3 1) (37 ∷ []) (73 ∷ 73 ∷ 73 ∷ [])
    -- M6
    ∷ takes (shape_of 2 1 2 2) (1 ∷ 1 ∷ []) (0 ∷ 1 ∷ 1 ∷ [])
    ∷ ones_are (shape_of 2 1 2 2) 7
    -- M7
    ∷ ones_are (shape_of 2 3 1 50) 51
    ∷ ones_are (shape_of 2 3 2 50) 156
    ∷ ones_are (shape_of 2 3 3 50) 187
    ∷ lookups_are (shape_of 2 3 1 50) 357
    ∷ lookups_are (shape_of 2 3 2 50) 1092
    ∷ lookups_are (shape_of 2 3 3 50) 1309
    -- M8
    ∷ checks_are (shape_of 2 3 2 26) 5
    ∷ checks_are (shape_of 2 3 2 27) 6
    ∷ refused_by (shape_of 2 3 2 247) 0
    ∷ refused_by (shape_of 2 3 2 248) 4
    ∷ []

-- M1 to M8
abbrev pub MarkedClaim : Type 0
MarkedClaim = AllHold marked_rows
