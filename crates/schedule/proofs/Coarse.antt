-- What a cycle that skips the z lowest digits tells of a row is told by the shape with b − z digits on the row's floors: balance from z on is
-- soundness there, so two rows balanced from z on whose floors differ in at most τ cells have the same floors. Assumes nothing.
use mathlib.Core.Path.{◌≡◌, refl, sym, ap, ap₂, ◌∙◌}
use mathlib.Core.Bool.{Bool, true, false, cond, false≢true}
use mathlib.Core.List.{List, [], ◌∷◌, map}
use Prim.Native.Nat.{ℕ, suc, ◌+◌, ◌-◌, ◌/◌, ◌%◌, ◌^◌, ◌≤◌, ◌<◌}
use native.Mathlib.Nat.{zero-div, div-div-eq-div-mul, div-lt_iff_lt-mul, div-one, pow-zero, one-le-pow, pow-le-pow_right, le_trans}
use native.Mathlib.Omega.{arith}
use lib.Dec.{eqb}
use lib.ListN.{length, get_or, length-map, get_or-map}
use lib.Pow.{pow-add}
use borrow.Author.Tests.{eqb-true, eq-eqb}
use Rattle.parity.specs.Lists.{differences}
use Rattle.parity.specs.Shape.{digit, levels, checks, columns}
use Rattle.parity.specs.Matrix.{matrix, support}
use Rattle.parity.specs.Codeword.{digit_sum, Codeword}
use Rattle.parity.specs.Claims.{Below}
use Rattle.parity.specs.Questions.{Taken}
use Rattle.parity.specs.declared.Shape.{Shape}
use Rattle.parity.proofs.Taken.{limits, taken}
use Rattle.parity.proofs.Distance.{distance_claim}
use Rattle.schedule.specs.Coarse.{floors, BalancedFrom}

-- the shape with b − z digits
abbrev coarse : ℕ → Shape → Shape
coarse z s = record { radix = s.radix; digits = s.digits - z; errors = s.errors; width = s.width; rows = s.rows }

-- ---- floors, whatever z

module _ (z : ℕ) (s : Shape) where
  pub floors-sized : (row : List ℕ) → length (floors z s row) ≡ length row
  unfolding floors
  floors-sized row = length-map row (λ v. v / s.radix ^ z)

  floor-at : (row : List ℕ) (j : ℕ) → get_or (floors z s row) j 0 ≡ get_or row j 0 / s.radix ^ z
  unfolding floors
  floor-at row j =
      ap (get_or (map (λ v. v / s.radix ^ z) row) j) (sym (zero-div (s.radix ^ z))) ∙ get_or-map (λ v. v / s.radix ^ z) row j 0

  -- floors differ in no more places than the rows do
  pub floors-nearer : (x y : List ℕ) → differences (floors z s x) (floors z s y) ≤ differences x y
  unfolding floors
  floors-nearer [] [] = omega arith
  floors-nearer [] (v ∷ ys) = omega (arith, floors-nearer [] ys)
  floors-nearer (u ∷ xs) [] = omega (arith, floors-nearer xs [])
  floors-nearer (u ∷ xs) (v ∷ ys) = go (eqb u v) refl (eqb (u / s.radix ^ z) (v / s.radix ^ z)) refl (floors-nearer xs ys)
    where
      p : ℕ
      p = s.radix ^ z

      go :
          (a : Bool) → eqb u v ≡ a → (b : Bool) → eqb (u / p) (v / p) ≡ b → differences (floors z s xs) (floors z s ys) ≤ differences xs ys
          → cond b (differences (floors z s xs) (floors z s ys)) (suc (differences (floors z s xs) (floors z s ys)))
          ≤ cond a (differences xs ys) (suc (differences xs ys))
      go true e true f rest = rest
      go true e false f rest = absurd (false≢true (sym f ∙ eq-eqb (u / p) (v / p) (ap (λ w. w / p) (eqb-true u v e))))
      go false e true f rest = omega arith
      go false e false f rest = omega arith

-- where no digit is skipped they are the row
pub floors-zero : (s : Shape) (row : List ℕ) → floors 0 s row ≡ row
unfolding floors
floors-zero s [] = refl
floors-zero s (v ∷ row) = ap₂ ◌∷◌ (ap (λ p. v / p) (pow-zero s.radix) ∙ div-one v) (floors-zero s row)

-- ---- below b

module _ (z : ℕ) (s : Shape) (t : Taken s) (lt : z < s.digits) where
  pos : 0 < s.radix
  pos = omega (arith, (limits s t).radix_low)

  coarse-taken : Taken (coarse z s)
  unfolding levels
  coarse-taken =
      let l = limits s t in
      taken (coarse z s)
      (record {
        radix_low = l.radix_low;
        radix_high = l.radix_high;
        digits_low = omega arith;
        levels_high = le_trans (pow-le-pow_right pos (omega arith)) l.levels_high;
        errors_low = l.errors_low;
        errors_high = l.errors_high;
        width_low = l.width_low;
        width_high = l.width_high;
        rows_low = l.rows_low;
        rows_high = l.rows_high;
      })

  -- digit d of a floor is digit z + d of the level
  digit-floor : (d v : ℕ) → digit s.radix d (v / s.radix ^ z) ≡ digit s.radix (z + d) v
  unfolding digit
  digit-floor d v =
      ap (λ x. x % s.radix) (div-div-eq-div-mul v (s.radix ^ z) (s.radix ^ d) ∙ ap (λ p. v / p) (sym (pow-add s.radix z d)))

  floor-sums : (d : ℕ) (js row : List ℕ) → digit_sum s.radix d js (floors z s row) ≡ digit_sum s.radix (z + d) js row
  floor-sums d [] row = refl
  floor-sums d (j ∷ js) row =
      ap₂ ◌+◌ (ap (digit s.radix d) (floor-at z s row j) ∙ digit-floor d (get_or row j 0)) (floor-sums d js row)

  floor-below : (v : ℕ) → v < levels s → v / s.radix ^ z < levels (coarse z s)
  unfolding levels
  floor-below v h =
      let parts : s.digits ≡ s.digits - z + z = omega arith in
      (div-lt_iff_lt-mul (one-le-pow z s.radix pos)).1
      (omega (arith, ap (λ b. s.radix ^ b) parts ∙ pow-add s.radix (s.digits - z) z))

  floors-codeword :
      (row : List ℕ) → length row ≡ columns s → Below (levels s) (columns s) row → BalancedFrom z s row → Codeword (coarse z s) (floors z s row)
  unfolding checks columns support matrix
  floors-codeword row sized below balanced =
      record {
        sized = floors-sized z s row ∙ sized;
        below = λ j h. rw (floor-at z s row j) (floor-below (get_or row j 0) (below j h));
        balanced =
            λ ℓ d h k. ap (λ x. x % s.radix) (floor-sums d (support s ℓ) row) ∙ balanced ℓ (z + d) h (omega arith) (omega arith);
      }

  pub floors-equal :
      (x y : List ℕ) → Codeword s x → length y ≡ columns s → Below (levels s) (columns s) y → BalancedFrom z s y
      → differences (floors z s x) (floors z s y) ≤ s.errors → floors z s x ≡ floors z s y
  floors-equal x y code sized below balanced near =
      distance_claim (coarse z s) coarse-taken (floors z s x) (floors z s y)
      (floors-codeword x code.sized code.below (λ ℓ d h low k. code.balanced ℓ d h k)) (floors-codeword y sized below balanced) near

  -- .. and rows with the same floors are balanced alike
  pub floors-balanced : (x y : List ℕ) → floors z s x ≡ floors z s y → BalancedFrom z s x → BalancedFrom z s y
  floors-balanced x y e balanced ℓ d h low k =
      let own : z + (d - z) ≡ d = omega arith in
      ap (λ d. digit_sum s.radix d (support s ℓ) y % s.radix) (sym own)
      ∙ ap (λ x. x % s.radix)
      (sym (floor-sums (d - z) (support s ℓ) y) ∙ ap (digit_sum s.radix (d - z) (support s ℓ)) (sym e) ∙ floor-sums (d - z) (support s ℓ) x)
      ∙ ap (λ d. digit_sum s.radix d (support s ℓ) x % s.radix) own
      ∙ balanced ℓ d h low k
