-- The sum over a check row, along the columns and the cells together: what `digit_sum` over J(ℓ) is, for a row of as many cells as columns.
-- Assumes nothing.
use mathlib.Core.Path.{◌≡◌, refl, sym, ◌∙◌, ap, ap₂}
use mathlib.Core.Bool.{Bool, true, false, cond}
use mathlib.Core.List.{List, [], ◌∷◌, ◌++◌}
use Prim.Native.Nat.{ℕ, suc, ◌+◌, ◌*◌, ◌/◌, ◌%◌, ◌^◌, ◌≤◌, ◌<◌, suc-le-suc}
use native.Mathlib.Nat.{suc_inj, mod-lt, add-zero, zero-mul, one-mul, zero-add, add_assoc}
use native.Mathlib.Nat.{suc-ne-zero, zero-lt-suc, add-suc, suc-add, le_of_lt, le_of_suc-le-suc, mul-le-mul, div-eq_of_lt}
use native.Mathlib.Omega.{arith}
use lib.Dec.{eqb}
use lib.ListN.{length, get_or, take}
use lib.Seq.{take-suc, length-take-le}
use borrow.Author.Tests.{eqb-true, eqb-false}
use Rattle.parity.specs.Lists.{sum_over}
use Rattle.parity.specs.Shape.{digit}
use Rattle.parity.specs.Matrix.{bit, places_from}
use Rattle.parity.specs.Codeword.{digit_sum}
use Rattle.parity.proofs.Remainders.{Same, same-eq, same_add, same-times}

-- f of each cell whose column has bit ℓ set, added up
abbrev pub check_sum : (ℕ → ℕ) → ℕ → List ℕ → List ℕ → ℕ
check_sum f ℓ [] vs = 0
check_sum f ℓ (c ∷ cs) [] = 0
check_sum f ℓ (c ∷ cs) (v ∷ vs) = bit ℓ c * f v + check_sum f ℓ cs vs

pub bit_below : (ℓ c : ℕ) → bit ℓ c < 2
unfolding digit
bit_below ℓ c = mod-lt (c / 2 ^ ℓ) (zero-lt-suc 1)

-- a bit that is not 1 is 0
pub bit-zero : (ℓ c : ℕ) → (bit ℓ c ≡ 1 → ⊥) → bit ℓ c ≡ 0
bit-zero ℓ c h = omega (arith, bit_below ℓ c)

-- a column below 2^ℓ has no one in check row ℓ
pub bit-beyond : (c ℓ : ℕ) → c < 2 ^ ℓ → bit ℓ c ≡ 0
unfolding digit
bit-beyond c ℓ h = ap (λ x. x % 2) (div-eq_of_lt h)

-- g at the places of the columns with bit ℓ set, where the cells from place j on are vs
places-sum : (f g : ℕ → ℕ) (ℓ j : ℕ) (cs vs : List ℕ) → length vs ≡ length cs
    → ((i : ℕ) → i < length vs → g (j + i) ≡ f (get_or vs i 0)) → sum_over (places_from j ℓ cs) g ≡ check_sum f ℓ cs vs
places-sum f g ℓ j [] vs e h = refl
places-sum f g ℓ j (c ∷ cs) [] e h = absurd (suc-ne-zero (length cs) (sym e))
places-sum f g ℓ j (c ∷ cs) (v ∷ vs) e h =
    go (eqb (bit ℓ c) 1) refl
    (places-sum f g ℓ (suc j) cs vs (suc_inj e) (λ i lt. ap g (suc-add j i ∙ sym (add-suc j i)) ∙ h (suc i) (suc-le-suc lt)))
  where
    first : g j ≡ f v
    first = ap g (sym (add-zero j)) ∙ h 0 (zero-lt-suc (length vs))

    go : (t : Bool) → eqb (bit ℓ c) 1 ≡ t → sum_over (places_from (suc j) ℓ cs) g ≡ check_sum f ℓ cs vs
        → sum_over (cond t (j ∷ places_from (suc j) ℓ cs) (places_from (suc j) ℓ cs)) g ≡ bit ℓ c * f v + check_sum f ℓ cs vs
    go true p rest = ap₂ ◌+◌ (first ∙ sym (one-mul (f v)) ∙ ap (λ x. x * f v) (sym (eqb-true (bit ℓ c) 1 p))) rest
    go false p rest =
        rest ∙ sym (zero-add (check_sum f ℓ cs vs))
        ∙ ap (λ x. x + check_sum f ℓ cs vs) (sym (zero-mul (f v)) ∙ ap (λ x. x * f v) (sym (bit-zero ℓ c (eqb-false (bit ℓ c) 1 p))))

-- the digits s of the cells in J(ℓ), added up, as the sum along the columns
pub digit_sum-check_sum : (ρ s ℓ : ℕ) (cs row : List ℕ) → length row ≡ length cs → digit_sum ρ s (places_from 0 ℓ cs) row ≡ check_sum (digit ρ s) ℓ cs row
digit_sum-check_sum ρ s ℓ cs row e =
    places-sum (digit ρ s) (λ j. digit ρ s (get_or row j 0)) ℓ 0 cs row e (λ i lt. ap (λ j. digit ρ s (get_or row j 0)) (zero-add i))

-- a row in two parts
pub check_sum-append : (f : ℕ → ℕ) (ℓ : ℕ) (cs ds vs ws : List ℕ) → length vs ≡ length cs
    → check_sum f ℓ (cs ++ ds) (vs ++ ws) ≡ check_sum f ℓ cs vs + check_sum f ℓ ds ws
check_sum-append f ℓ [] ds [] ws e = sym (zero-add (check_sum f ℓ ds ws))
check_sum-append f ℓ [] ds (v ∷ vs) ws e = absurd (suc-ne-zero (length vs) e)
check_sum-append f ℓ (c ∷ cs) ds [] ws e = absurd (suc-ne-zero (length cs) (sym e))
check_sum-append f ℓ (c ∷ cs) ds (v ∷ vs) ws e =
    ap (λ x. bit ℓ c * f v + x) (check_sum-append f ℓ cs ds vs ws (suc_inj e)) ∙ sym (add_assoc (bit ℓ c * f v) (check_sum f ℓ cs vs) (check_sum f ℓ ds ws))

-- one column and one cell more
pub check_sum-next : (f : ℕ → ℕ) (ℓ j : ℕ) (cs vs : List ℕ) → j < length cs → j < length vs
    → check_sum f ℓ (take j cs) (take j vs) + bit ℓ (get_or cs j 0) * f (get_or vs j 0) ≡ check_sum f ℓ (take (suc j) cs) (take (suc j) vs)
check_sum-next f ℓ j cs vs hc hv =
    let seam : length (take j vs) ≡ length (take j cs) = length-take-le j vs (le_of_lt hv) ∙ sym (length-take-le j cs (le_of_lt hc)) in
    rw (take-suc cs j 0, take-suc vs j 0, check_sum-append f ℓ (take j cs) (get_or cs j 0 ∷ []) (take j vs) (get_or vs j 0 ∷ []) seam, add-zero)

-- what a sum of values of at most m each can reach
pub check_sum-high : (f : ℕ → ℕ) (m ℓ : ℕ) (cs vs : List ℕ) → ((i : ℕ) → i < length vs → f (get_or vs i 0) ≤ m) → check_sum f ℓ cs vs ≤ m * length vs
check_sum-high f m ℓ [] vs h = omega arith
check_sum-high f m ℓ (c ∷ cs) [] h = omega arith
check_sum-high f m ℓ (c ∷ cs) (v ∷ vs) h =
    let first : bit ℓ c * f v ≤ 1 * m = mul-le-mul (le_of_suc-le-suc (bit_below ℓ c)) (h 0 (zero-lt-suc (length vs))) in
    omega (arith, check_sum-high f m ℓ cs vs (λ i lt. h (suc i) (suc-le-suc lt)))

-- values that are congruent have congruent sums
pub check_sum-same :
    {ρ : ℕ} (f g : ℕ → ℕ) → ((v : ℕ) → Same ρ (f v) (g v)) → (ℓ : ℕ) (cs vs : List ℕ) → Same ρ (check_sum f ℓ cs vs) (check_sum g ℓ cs vs)
check_sum-same f g h ℓ [] vs = same-eq refl
check_sum-same f g h ℓ (c ∷ cs) [] = same-eq refl
check_sum-same f g h ℓ (c ∷ cs) (v ∷ vs) = same_add (same-times (bit ℓ c) (h v)) (check_sum-same f g h ℓ cs vs)
