-- The largest of numbers: all are below a bound, or at most it, exactly where it is; and one number more. Assumes nothing.
use mathlib.Core.Path.{◌≡◌, refl, sym, ap, ◌∙◌}
use mathlib.Core.Bool.{Bool, true, false, ◌&&◌}
use mathlib.Core.List.{List, [], ◌∷◌, ◌++◌}
use Prim.Native.Nat.{ℕ, suc, ◌+◌, ◌<◌, max}
use native.Mathlib.Nat.{zero-lt-suc}
use native.Mathlib.Numerals.{add-one}
use native.Mathlib.Omega.{arith}
use lib.Dec.{leb, ltb, leb-suc-suc}
use lib.ListN.{length, get_or, take}
use lib.Seq.{take-suc}
use borrow.Author.Tests.{lt-ltb, ltb-true, ltb-false, le-ltb}
use Rattle.parity.specs.Lists.{every, greatest}

-- of two numbers the larger decides
max-below : (bound a b : ℕ) → ltb a bound && ltb b bound ≡ ltb (max a b) bound
max-below bound a b = go (ltb a bound) (ltb b bound) refl refl
  where
    go : (s t : Bool) → ltb a bound ≡ s → ltb b bound ≡ t → s && t ≡ ltb (max a b) bound
    go true true e f = sym (lt-ltb (max a b) bound (omega (arith, ltb-true a bound e, ltb-true b bound f)))
    go true false e f = sym (le-ltb (max a b) bound (omega (arith, ltb-false b bound f)))
    go false t e f = sym (le-ltb (max a b) bound (omega (arith, ltb-false a bound e)))

pub greatest-below : (bound : ℕ) → 0 < bound → (xs : List ℕ) → every (λ v. ltb v bound) xs ≡ ltb (greatest xs) bound
greatest-below bound pos [] = sym (lt-ltb 0 bound pos)
greatest-below bound pos (x ∷ xs) = ap (λ t. ltb x bound && t) (greatest-below bound pos xs) ∙ max-below bound x (greatest xs)

-- at most a bound is below the next number
pub greatest-within : (bound : ℕ) (xs : List ℕ) → every (λ v. leb v bound) xs ≡ leb (greatest xs) bound
greatest-within bound xs =
    ap (λ p. every p xs) (λ i v. sym (leb-suc-suc v bound) i) ∙ greatest-below (suc bound) (zero-lt-suc bound) xs ∙ leb-suc-suc (greatest xs) bound

-- one number more at the end
greatest-snoc : (xs : List ℕ) (y : ℕ) → greatest (xs ++ y ∷ []) ≡ max (greatest xs) y
greatest-snoc [] y = omega arith
greatest-snoc (x ∷ xs) y = omega (arith, greatest-snoc xs y)

pub greatest-next : (xs : List ℕ) (i : ℕ) → i < length xs → greatest (take (i + 1) xs) ≡ max (greatest (take i xs)) (get_or xs i 0)
greatest-next xs i h = ap (λ n. greatest (take n xs)) (add-one i) ∙ ap greatest (take-suc xs i 0 h) ∙ greatest-snoc (take i xs) (get_or xs i 0)
