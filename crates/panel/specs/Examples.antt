-- The claims are not empty: four lists at a shape of three blocks, the last of them short (ρ 2, b 1, τ 1, k 1, m 130: n is 2 and a cycle has 4
-- steps), with the totals that they leave and what the panel is told.
use Rattle.std.specs.Prelude.{◌≡◌, List, [], ◌∷◌, map, ℕ, replicate}
use Rattle.parity.specs.declared.Shape.{Shape}
use Rattle.shape.specs.Answers.{Said, row, none, accepted}
use Rattle.call_lists.specs.Run.{Call, start, drift, line, step, run}
use Rattle.panel.specs.Panel.{Reading, reading, panel_call}

abbrev pub three_blocks : Shape
three_blocks = record { radix = 2; digits = 1; errors = 1; width = 1; rows = 130 }

-- a whole cycle
abbrev pub whole_cycle : List Call
whole_cycle = start 0 ∷ replicate 4 (step (replicate 130 7))

-- no drift; one in the last block; one in each of two blocks; and a dead line beside one of them
unfoldable pub examples : List (List Call)
examples = whole_cycle ∷ (drift 129 1 1 ∷ whole_cycle) ∷ (drift 70 0 1 ∷ drift 129 1 1 ∷ whole_cycle) ∷ (line 69 1 ∷ drift 70 0 1 ∷ whole_cycle) ∷ []

-- what is looked at after a list: the totals, and what the panel is told
pub record PanelSeen : Type 0 where
  pub totals : List ℕ
  pub told : Said Reading

abbrev pub panel_seen : List Call → PanelSeen
panel_seen calls = let mem = (run three_blocks calls).memory in record { totals = mem.totals; told = panel_call three_blocks mem }

abbrev pub ExamplesClaim : Type 0
ExamplesClaim =
    map panel_seen examples
    ≡ record { totals = 0 ∷ 0 ∷ 0 ∷ []; told = accepted (reading 0 none 0) }
    ∷ record { totals = 0 ∷ 0 ∷ 1 ∷ []; told = accepted (reading 1 (row 129) 2) }
    ∷ record { totals = 0 ∷ 1 ∷ 1 ∷ []; told = accepted (reading 2 (row 70) 7) }
    ∷ record { totals = 0 ∷ 2 ∷ 0 ∷ []; told = accepted (reading 2 (row 69) 6) }
    ∷ []
