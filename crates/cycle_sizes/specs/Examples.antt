-- The definition is not empty: the paper's Example 1 (ρ 2, b 3, τ 2, k 50, m 512), a coarse cycle on it, and one that skips every digit.
use Rattle.std.specs.Prelude.{◌≡◌, [], ◌∷◌, map}
use Rattle.parity.specs.declared.Shape.{Shape}
use Rattle.shape.specs.Answers.{accepted, refused}
use Rattle.cycle_sizes.specs.Sizes.{no_cycle_sizes, sizes_call}

abbrev pub example_one : Shape
example_one = record { radix = 2; digits = 3; errors = 2; width = 50; rows = 512 }

abbrev pub SizesExampleClaim : Type 0
SizesExampleClaim =
    map (sizes_call example_one) (0 ∷ 1 ∷ 3 ∷ [])
    ≡ accepted (record { sizes = record { levels = 8; checks = 6; columns = 56; cells = 28672 }; blocks = 8; steps = 1094 })
    ∷ accepted (record { sizes = record { levels = 8; checks = 6; columns = 56; cells = 28672 }; blocks = 8; steps = 470 })
    ∷ refused no_cycle_sizes 15
    ∷ []
