-- What it says that a shape is taken: the limits of the five questions, and that they suffice; and what 15 says. Assumes nothing.
use mathlib.Core.Path.{◌≡◌, refl, sym, ap, ◌∙◌}
use mathlib.Core.Logic.{◌⊎◌, inl, inr, ⊎_elim}
use mathlib.Core.Bool.{Bool, true, false, cond, ◌&&◌, and-eq-true_iff}
use mathlib.Core.List.{[], ◌∷◌}
use Prim.Native.Nat.{ℕ, ◌≤◌, ◌<◌}
use native.Mathlib.Nat.{eq-or-lt_of_le}
use native.Mathlib.Omega.{arith}
use lib.Dec.{leb, lit<}
use borrow.Author.Tests.{leb-true, ltb-true, le-leb, lt-leb}
use Rattle.parity.specs.Shape.{levels, limit}
use Rattle.parity.specs.Questions.{first_no, shape_refusal, Taken, skip_question}
use Rattle.parity.specs.declared.Shape.{Shape}

pub record Limits (s : Shape) : Type 0 where
  pub radix_low : 2 ≤ s.radix
  pub radix_high : s.radix ≤ 255
  pub digits_low : 1 ≤ s.digits
  pub levels_high : levels s ≤ 256
  pub errors_low : 1 ≤ s.errors
  pub errors_high : s.errors ≤ 3
  pub width_low : 1 ≤ s.width
  pub width_high : s.width ≤ limit s.errors
  pub rows_low : 1 ≤ s.rows
  pub rows_high : s.rows ≤ 4096

-- where no answer to a list of questions is no, the first is yes and none of the others is no
pub first-yes : (holds : Bool) (rest number : ℕ) → 0 < number → cond holds rest number ≡ 0 → (holds ≡ true) × (rest ≡ 0)
first-yes true rest number h e = (refl, e)
first-yes false rest number h e = absurd (omega arith)

-- a number of digits to skip that is taken is below b
pub skip_below : (s : Shape) (z : ℕ) → first_no (skip_question s z ∷ []) ≡ 0 → z < s.digits
skip_below s z e = ltb-true z s.digits (first-yes (skip_question s z).holds 0 15 (lit< tt) e).0

-- a test of a range passes exactly where the range holds
pub range-true : (a b c d : ℕ) → leb a b && leb c d ≡ true → (a ≤ b) × (c ≤ d)
range-true a b c d e =
    let both = (and-eq-true_iff (leb a b) (leb c d)).0 e in
    (leb-true a b both.0, leb-true c d both.1)

pub range-test : (a b c d : ℕ) → a ≤ b → c ≤ d → leb a b && leb c d ≡ true
range-test a b c d low high = simp (le-leb a b low, le-leb c d high)

-- a question that asks for a range, before the others
pub first_range :
    (a b c d : ℕ) (rest number : ℕ) → 0 < number → cond (leb a b && leb c d) rest number ≡ 0 → (a ≤ b) × (c ≤ d) × (rest ≡ 0)
first_range a b c d rest number h e =
    let first = first-yes (leb a b && leb c d) rest number h e in
    let range = range-true a b c d first.0 in
    (range.0, range.1, first.1)

-- a range that does not hold fails it, at either end
pub range-low : (a b c d : ℕ) → b < a → leb a b && leb c d ≡ false
range-low a b c d below = simp (lt-leb a b below)

pub range-high : (a b c d : ℕ) → d < c → leb a b && leb c d ≡ false
range-high a b c d above = ap (λ t. leb a b && t) (lt-leb c d above) ∙ never (leb a b)
  where
    never : (t : Bool) → t && false ≡ false
    never true = refl
    never false = refl

pub limits : (s : Shape) → Taken s → Limits s
unfolding shape_refusal
limits s t =
    let one = first_range 2 s.radix s.radix 255 _ 1 (omega arith) t in
    let two = first_range 1 s.digits (levels s) 256 _ 2 (omega arith) one.2 in
    let three = first_range 1 s.errors s.errors 3 _ 3 (omega arith) two.2 in
    let four = first_range 1 s.width s.width (limit s.errors) _ 4 (omega arith) three.2 in
    let five = first_range 1 s.rows s.rows 4096 0 5 (omega arith) four.2 in
    omega arith

pub taken : (s : Shape) → Limits s → Taken s
unfolding shape_refusal
taken s l =
    simp (
      range-test 2 s.radix s.radix 255 l.radix_low l.radix_high,
      range-test 1 s.digits (levels s) 256 l.digits_low l.levels_high,
      range-test 1 s.errors s.errors 3 l.errors_low l.errors_high,
      range-test 1 s.width s.width (limit s.errors) l.width_low l.width_high,
      range-test 1 s.rows s.rows 4096 l.rows_low l.rows_high,
    )

-- the two kinds of shape: one check column for one error, and columns apart for more
pub errors-split : (s : Shape) → Taken s → (s.errors ≡ 1) ⊎ (2 ≤ s.errors)
errors-split s t = ⊎_elim (λ e. inl (sym e)) inr (eq-or-lt_of_le (limits s t).errors_low)
