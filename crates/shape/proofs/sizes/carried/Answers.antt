-- `shape::sizes::carried` meets its contract: one computed test holds every entry of the table to the formula. Assumes nothing.
use mathlib.Core.Path.{refl, ◌∙◌}
use mathlib.Core.Bool.{Bool}
use mathlib.Core.List.{List, [], ◌∷◌}
use Prim.Native.Nat.{ℕ, ◌-◌}
use native.Mathlib.Omega.{arith}
use lib.Dec.{eqb}
use lib.ListN.{get_or}
use borrow.Author.Tests.{eqb-true}
use Rattle.parity.specs.Shape.{largest}
use Rattle.parity.proofs.ListLaws.{grid-at}
use Rattle.shape.proofs.sizes.carried.Goals as goal

abbrev table : List (List ℕ)
table =
    (254 ∷ 0 ∷ 0 ∷ 0 ∷ 0 ∷ 0 ∷ 0 ∷ 0 ∷ [])
    ∷ (0 ∷ 1 ∷ 4 ∷ 11 ∷ 26 ∷ 57 ∷ 120 ∷ 247 ∷ [])
    ∷ (0 ∷ 0 ∷ 1 ∷ 4 ∷ 11 ∷ 26 ∷ 57 ∷ 120 ∷ [])
    ∷ []

-- the entry for τ and r is the largest k
right : ℕ → ℕ → Bool
right τ r = eqb (get_or (get_or table (τ - 1) []) (r - 1) 0) (largest τ r)

pub returns : goal.returns
unfolding right largest
returns c =
    let args = c.args in
    c.from.ensures
    ∙ eqb-true _ _ (grid-at 3 8 right refl args.errors args.checks (omega arith) (omega arith) (omega arith) (omega arith))
