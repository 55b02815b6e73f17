-- `acam::sound::is_balanced` meets its contract: below digit s each check row sums to 0 mod ρ; a sum that fails fails the whole test. Assumes nothing.
use mathlib.Core.Path.{◌≡◌}
use mathlib.Core.List.{List}
use Prim.Native.Nat.{ℕ, ◌%◌, ◌^◌, ◌<◌}
use lib.ListN.{length, take}
use Rattle.parity.specs.Shape.{digit, checks, columns}
use Rattle.parity.proofs.Sums.{check_sum}
use Rattle.acam.proofs.sound.is_balanced.Given as goal

-- the sum of digit t in check row ℓ
abbrev pub row_sum : ℕ → List ℕ → List ℕ → ℕ → ℕ → ℕ
row_sum ρ columns row t ℓ = check_sum (digit ρ t) ℓ (take (length row) columns) row

abbrev pub Balanced : ℕ → ℕ → List ℕ → List ℕ → ℕ → Type 0
Balanced ρ checks columns row t = (ℓ : ℕ) → ℓ < checks → row_sum ρ columns row t ℓ % ρ ≡ 0

abbrev pub invariant-loop : goal.invariant-loop
invariant-loop l = (l.power ≡ l.radix ^ l.counter) × ((t : ℕ) → t < l.counter → Balanced l.radix l.checks l.matrix l.row t)
