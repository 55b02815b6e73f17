-- Ones counted twice: those of a matrix, W among them, by definition counted check row by check row, are the weights of its columns added up.
-- Assumes nothing.
use mathlib.Core.Path.{◌≡◌, refl, sym, ◌∙◌, ap, ap₂}
use mathlib.Core.Logic.{⊎_elim}
use mathlib.Core.Bool.{Bool, true, false, cond}
use mathlib.Core.List.{List, [], ◌∷◌}
use Prim.Native.Nat.{ℕ, zero, suc, ◌+◌, ◌^◌, ◌≤◌, ◌<◌, suc-le-suc}
use native.Mathlib.Nat.{zero-lt-suc, eq-or-lt_of_le}
use native.Mathlib.Omega.{arith}
use lib.Dec.{eqb}
use lib.ListN.{length, get_or}
use lib.Pow.{pow_mono}
use borrow.Author.Tests.{eqb-true, eqb-false}
use Rattle.parity.specs.Lists.{sum_over, sum_to}
use Rattle.parity.specs.Shape.{checks}
use Rattle.parity.specs.Matrix.{bit, weight, matrix, places_from, support, matrix_ones, ones_of}
use Rattle.parity.specs.Questions.{Taken}
use Rattle.parity.specs.declared.Shape.{Shape}
use Rattle.parity.proofs.ListLaws.{Each}
use Rattle.parity.proofs.Sums.{bit-zero, bit-beyond}
use Rattle.parity.proofs.Redundancy.{redundancy_claim}
use Rattle.parity.proofs.MatrixFacts.{matrix_claim}

-- |J(ℓ)| is the bits ℓ of the columns, added up
pub places-length : (j ℓ : ℕ) (cs : List ℕ) → length (places_from j ℓ cs) ≡ sum_over cs (bit ℓ)
places-length j ℓ [] = refl
places-length j ℓ (c ∷ cs) = go (eqb (bit ℓ c) 1) refl (places-length (suc j) ℓ cs)
  where
    go :
        (t : Bool) → eqb (bit ℓ c) 1 ≡ t → length (places_from (suc j) ℓ cs) ≡ sum_over cs (bit ℓ)
        → length (cond t (j ∷ places_from (suc j) ℓ cs) (places_from (suc j) ℓ cs)) ≡ bit ℓ c + sum_over cs (bit ℓ)
    go true e rest = omega (arith, eqb-true (bit ℓ c) 1 e)
    go false e rest = omega (arith, bit-zero ℓ c (eqb-false (bit ℓ c) 1 e))

sum_to-add : (n : ℕ) (f g : ℕ → ℕ) → sum_to n (λ i. f i + g i) ≡ sum_to n f + sum_to n g
sum_to-add zero f g = omega arith
sum_to-add (suc n) f g = omega (arith, sum_to-add n f g)

-- the bits of all columns, check row by check row and column by column
double-count : (r : ℕ) (cs : List ℕ) → sum_to r (λ ℓ. sum_over cs (bit ℓ)) ≡ sum_over cs (λ c. sum_to r (λ ℓ. bit ℓ c))
double-count zero [] = refl
double-count (suc r) [] = omega (arith, double-count r [])
double-count r (c ∷ cs) = sum_to-add r (λ ℓ. bit ℓ c) (λ ℓ. sum_over cs (bit ℓ)) ∙ ap (λ x. sum_to r (λ ℓ. bit ℓ c) + x) (double-count r cs)

sum_over-same : (f g : ℕ → ℕ) (cs : List ℕ) → Each (λ c. f c ≡ g c) cs → sum_over cs f ≡ sum_over cs g
sum_over-same f g [] same = refl
sum_over-same f g (c ∷ cs) same = ap₂ ◌+◌ (same 0 (zero-lt-suc (length cs))) (sum_over-same f g cs (λ j h. same (suc j) (suc-le-suc h)))

-- a column below 2^r has all its ones in the first r bits
first-bits : (r n c : ℕ) → r ≤ n → c < 2 ^ r → sum_to r (λ ℓ. bit ℓ c) ≡ sum_to n (λ ℓ. bit ℓ c)
first-bits r zero c le h = let none : r ≡ 0 = omega arith in ap (λ m. sum_to m (λ ℓ. bit ℓ c)) none
first-bits r (suc n) c le h =
    ⊎_elim
    (λ (e : r ≡ suc n). ap (λ m. sum_to m (λ ℓ. bit ℓ c)) e)
    (λ (l : r < suc n).
    let within : r ≤ n = omega arith in
    omega (arith, first-bits r n c within h, bit-beyond c n (omega (arith, pow_mono {i = r} {j = n} within))))
    (eq-or-lt_of_le le)

-- so the ones of a matrix are the weights of its columns, added up
pub ones-weights : (r : ℕ) (cs : List ℕ) → r ≤ 8 → Each (λ c. c < 2 ^ r) cs → ones_of r cs ≡ sum_over cs weight
unfolding ones_of weight
ones-weights r cs high below =
    ap (sum_to r) (λ i ℓ. places-length 0 ℓ cs i)
    ∙ double-count r cs
    ∙ sum_over-same (λ c. sum_to r (λ ℓ. bit ℓ c)) weight cs (λ j h. first-bits r 8 (get_or cs j 0) high (below j h))

-- W is the ones of the check matrix
pub matrix_ones-ones : (s : Shape) → ones_of (checks s) (matrix s) ≡ matrix_ones s
unfolding ones_of matrix_ones support
matrix_ones-ones s = refl

pub matrix_ones-weights : (s : Shape) → Taken s → matrix_ones s ≡ sum_over (matrix s) weight
matrix_ones-weights s t =
    let claim = matrix_claim s t in
    sym (matrix_ones-ones s) ∙ ones-weights (checks s) (matrix s) (redundancy_claim s t).high (λ j h. claim.in_checks j (omega (arith, claim.sized)))
