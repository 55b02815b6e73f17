-- Document 02, Card 2: what a cycle that skips the z lowest digits sees of a row.
use Rattle.std.specs.Prelude.{◌≡◌, Bool, List, map, ℕ, ◌+◌, ◌-◌, ◌/◌, ◌%◌, ◌^◌, ◌≤◌, ◌<◌, eqb}
use Rattle.parity.specs.Lists.{every_to}
use Rattle.parity.specs.Shape.{checks}
use Rattle.parity.specs.Matrix.{support}
use Rattle.parity.specs.Codeword.{digit_sum}
use Rattle.parity.specs.declared.Shape.{Shape}

-- floor(level / ρ^z) of each cell
unfoldable pub floors : ℕ → Shape → List ℕ → List ℕ
floors z shape row = map (λ v. v / shape.radix ^ z) row

-- For each ℓ and each s from z on, the digits s of the row's cells in J(ℓ) sum to 0 mod ρ. From 0 on this is what a sound row has.
abbrev pub BalancedFrom : ℕ → Shape → List ℕ → Type 0
BalancedFrom z shape row =
    (ℓ s : ℕ) → ℓ < checks shape → z ≤ s → s < shape.digits → digit_sum shape.radix s (support shape ℓ) row % shape.radix ≡ 0

-- the same as a test; the two are tied by `BalancedClaim` (Claims.antt)
unfoldable pub is_balanced_from : ℕ → Shape → List ℕ → Bool
is_balanced_from z shape row =
    every_to (checks shape) (λ ℓ. every_to (shape.digits - z) (λ i. eqb (digit_sum shape.radix (z + i) (support shape ℓ) row % shape.radix) 0))
