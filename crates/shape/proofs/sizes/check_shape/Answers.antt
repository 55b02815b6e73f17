-- `shape::sizes::check_shape` meets its contract: questions 1 and 2 here, the others by `check_columns`. Assumes nothing.
use mathlib.Core.Path.{◌≡◌, refl, ◌∙◌}
use mathlib.Core.Bool.{Bool, true, false, cond}
use Prim.Native.Nat.{ℕ, ◌^◌, ◌≤◌, ◌<◌}
use native.Mathlib.Omega.{arith}
use lib.Dec.{leb}
use borrow.Author.Tests.{leb-false}
use Rattle.parity.specs.Shape.{levels}
use Rattle.parity.specs.Questions.{shape_refusal}
use Rattle.parity.proofs.Taken.{range-test, range-low, range-high}
use Rattle.shape.proofs.sizes.check_shape.Goals as goal

-- what the capped power tells of the power
capped-high : (x : ℕ) → 256 < cond (leb x 256) x 257 → 256 < x
capped-high x = go (leb x 256) refl
  where
    go : (t : Bool) → leb x 256 ≡ t → 256 < cond t x 257 → 256 < x
    go true e h = h
    go false e h = leb-false x 256 e

capped-low : (x : ℕ) → cond (leb x 256) x 257 ≤ 256 → (cond (leb x 256) x 257 ≡ x) × (x ≤ 256)
capped-low x = go (leb x 256) refl
  where
    go : (t : Bool) → leb x 256 ≡ t → cond t x 257 ≤ 256 → (cond t x 257 ≡ x) × (x ≤ 256)
    go true e h = (refl, h)
    go false e h = absurd (omega arith)

-- ρ too small
pub returns-then-radix-lt-MIN_RADIX : goal.returns-then-radix-lt-MIN_RADIX
unfolding shape_refusal
returns-then-radix-lt-MIN_RADIX c = let s = c.args.shape in simp (range-low 2 s.radix s.radix 255 (omega arith))

-- ρ too large
pub returns-then-radix-gt-MAX_RADIX : goal.returns-then-radix-gt-MAX_RADIX
unfolding shape_refusal
returns-then-radix-gt-MAX_RADIX c = let s = c.args.shape in simp (range-high 2 s.radix s.radix 255 (omega arith))

-- no digits
pub returns-then-digits-lt-MIN_DIGITS : goal.returns-then-digits-lt-MIN_DIGITS
unfolding shape_refusal
returns-then-digits-lt-MIN_DIGITS c =
    let s = c.args.shape in
    simp (range-test 2 s.radix s.radix 255 (omega arith) (omega arith), range-low 1 s.digits (levels s) 256 (omega arith))

-- q too large
pub returns-then-levels-gt-MAX_LEVELS : goal.returns-then-levels-gt-MAX_LEVELS
unfolding shape_refusal levels
returns-then-levels-gt-MAX_LEVELS c =
    let s = c.args.shape in
    let above = capped-high (s.radix ^ s.digits) (omega (arith, c.capped_power-levels.ensures)) in
    simp (range-test 2 s.radix s.radix 255 (omega arith) (omega arith), range-high 1 s.digits (s.radix ^ s.digits) 256 above)

pub check_columns-requires : goal.check_columns-requires
unfolding levels
check_columns-requires c =
    let s = c.args.shape in
    c.capped_power-levels.ensures ∙ (capped-low (s.radix ^ s.digits) (omega (arith, c.capped_power-levels.ensures))).0

-- the other questions
pub returns : goal.returns
unfolding shape_refusal levels
returns c =
    let s = c.args.shape in
    let within = (capped-low (s.radix ^ s.digits) (omega (arith, c.capped_power-levels.ensures))).1 in
    simp (range-test 2 s.radix s.radix 255 (omega arith) (omega arith), range-test 1 s.digits (s.radix ^ s.digits) 256 (omega arith) within)
    c.check_columns.ensures
