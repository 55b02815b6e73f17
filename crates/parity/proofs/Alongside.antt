-- Numbers that stand beside others: a loop through them, place after place; and where the test is that they are equal, equal lists, and lists in two
-- parts. Assumes nothing.
use mathlib.Core.Path.{◌≡◌, refl, sym, ap, ap₂, ◌∙◌}
use mathlib.Core.Bool.{Bool, true, false, ◌&&◌, and-eq-true_iff, and_assoc, and-false, false≢true}
use mathlib.Core.List.{List, [], ◌∷◌, ◌++◌}
use Prim.Native.Nat.{ℕ, suc}
use native.Mathlib.Omega.{arith}
use lib.Dec.{eqb}
use lib.ListN.{length, drop}
use borrow.Author.Tests.{eqb-true, eq-eqb}
use Rattle.parity.specs.Lists.{alongside}

-- the test from place j on
abbrev pub alongside_from : (ℕ → ℕ → Bool) → List ℕ → List ℕ → ℕ → Bool
alongside_from p xs ys j = alongside p (drop j xs) (drop j ys)

-- lists of other lengths never stand alongside
pub alongside-lengths : (p : ℕ → ℕ → Bool) (xs ys : List ℕ) → (length xs ≡ length ys → ⊥) → alongside p xs ys ≡ false
alongside-lengths p [] [] apart = absurd (apart refl)
alongside-lengths p [] (y ∷ ys) apart = refl
alongside-lengths p (x ∷ xs) [] apart = refl
alongside-lengths p (x ∷ xs) (y ∷ ys) apart =
    ap (λ t. p x y && t) (alongside-lengths p xs ys (λ e. apart (ap suc e))) ∙ and-false (p x y)

-- ---- equal numbers

pub alongside-equal : (xs ys : List ℕ) → alongside eqb xs ys ≡ true → xs ≡ ys
alongside-equal [] [] e = refl
alongside-equal [] (y ∷ ys) e = absurd (false≢true e)
alongside-equal (x ∷ xs) [] e = absurd (false≢true e)
alongside-equal (x ∷ xs) (y ∷ ys) e =
    let both = (and-eq-true_iff (eqb x y) (alongside eqb xs ys)).0 e in
    ap₂ (λ (z : ℕ) (zs : List ℕ). z ∷ zs) (eqb-true x y both.0) (alongside-equal xs ys both.1)

pub equal-alongside : (xs ys : List ℕ) → xs ≡ ys → alongside eqb xs ys ≡ true
equal-alongside xs ys e = ap (λ zs. alongside eqb xs zs) (sym e) ∙ self xs
  where
    self : (xs : List ℕ) → alongside eqb xs xs ≡ true
    self [] = refl
    self (x ∷ xs) = ap₂ ◌&&◌ (eq-eqb x x refl) (self xs)

-- the first parts of one length, and the others
pub alongside-append :
    (xs xs' ys ys' : List ℕ) → length xs ≡ length xs' → alongside eqb (xs ++ ys) (xs' ++ ys') ≡ alongside eqb xs xs' && alongside eqb ys ys'
alongside-append [] [] ys ys' e = refl
alongside-append [] (x ∷ xs') ys ys' e = absurd (omega arith)
alongside-append (x ∷ xs) [] ys ys' e = absurd (omega arith)
alongside-append (x ∷ xs) (y ∷ xs') ys ys' e =
    ap (λ t. eqb x y && t) (alongside-append xs xs' ys ys' (omega arith)) ∙ sym (and_assoc (eqb x y) (alongside eqb xs xs') (alongside eqb ys ys'))
