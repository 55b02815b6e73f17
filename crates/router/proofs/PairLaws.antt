-- Bytes paired in the front part of an array, two places for each of them, which a taken shape's levels and columns allow. Assumes nothing.
use mathlib.Core.Path.{◌≡◌, sym, ap, ◌∙◌}
use mathlib.Core.List.{List, ◌++◌}
use Prim.Native.Nat.{ℕ, ◌+◌, ◌-◌}
use native.Mathlib.Omega.{arith}
use lib.ListN.{length, take, drop}
use Rattle.parity.specs.Shape.{levels}
use Rattle.parity.specs.Claims.{Below}
use Rattle.parity.specs.Questions.{Taken}
use Rattle.parity.specs.declared.Shape.{Shape}
use Rattle.parity.proofs.Sizes.{two-levels}
use Rattle.parity.proofs.Taken.{limits}
use Rattle.shape.specs.Bounds.{Within}
use Rattle.shape.specs.Shapes.{sizes_of}
use Rattle.shape.specs.declared.sizes.Sizes.{Sizes}
use Rattle.array_lookup.proofs.Front.{blank, Holds, front-sized, front-held}
use Rattle.router_ranges.specs.Ranges.{features, paired}
use Rattle.router_ranges.proofs.Pairs.{paired-length}
use Rattle.router.specs.Pairs.{PairsLent}

-- the top level is a byte
pub levels-within : (s : Shape) → Taken s → (z : Sizes) → z ≡ sizes_of s → Within 1 z.levels 256
levels-within s t z e =
    let same : z.levels ≡ levels s = ap (λ z. z.levels) e in
    record { low = omega (arith, two-levels s t); high = omega (arith, (limits s t).levels_high) }

-- two bytes for each feature, the second of them levels
pub record Pairable (s : Shape) (xs ys : List ℕ) : Type 0 where
  pub taken : Taken s
  pub even : features s + features s ≡ s.width
  pub firsts : length xs ≡ features s
  pub seconds : length ys ≡ features s
  pub below : Below (levels s) (features s) ys

module _ (s : Shape) (z : Sizes) (e : z ≡ sizes_of s) (xs ys : List ℕ) (p : Pairable s xs ys) where
  counted : z.levels ≡ levels s
  counted = ap (λ z. z.levels) e

  -- what the pairing asks of the part of the array that is lent for them
  pub pairs-ask : PairsLent (z.levels - 1) xs ys (length (take s.width blank))
  pairs-ask =
      record {
        same = p.seconds ∙ sym p.firsts;
        twice = omega (arith, front-sized s p.taken);
        below = λ i h. omega (arith, counted, p.below i (omega arith));
      }

  -- when it is back
  pub pairs-held : (made : List ℕ) → made ≡ paired (z.levels - 1) xs ys → Holds s.width (made ++ drop s.width blank) (paired (levels s - 1) xs ys)
  pairs-held made are =
      let sized : length made ≡ s.width = omega (arith, ap length are, paired-length (z.levels - 1) xs ys (p.seconds ∙ sym p.firsts)) in
      front-held s p.taken made (paired (levels s - 1) xs ys) sized (are ∙ ap (λ q. paired (q - 1) xs ys) counted)
