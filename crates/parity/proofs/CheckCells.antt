-- The sum of a check row over the check columns 2^0 .. 2^(r − 1): check row ℓ holds check cell ℓ and no other. Assumes nothing.
use mathlib.Core.Path.{◌≡◌, refl, sym, ◌∙◌, ap, ap₂}
use mathlib.Core.Logic.{◌≢◌}
use mathlib.Core.List.{List, [], ◌∷◌}
use Prim.Native.Nat.{ℕ, zero, suc, ◌+◌, ◌*◌, ◌/◌, ◌%◌, ◌^◌, ◌<◌, suc-le-suc}
use native.Mathlib.Nat.{suc_inj, suc-ne-zero, zero-lt-suc, le_of_suc-le-suc, not-suc-le-zero, zero-mul}
use native.Mathlib.Nat.{one-mul, zero-add, add-zero, div_self, pow-suc, mul-mod_left, mul-div_cancel}
use lib.ListN.{length, get_or}
use lib.Pow.{pow_pos}
use Rattle.parity.specs.Shape.{digit}
use Rattle.parity.specs.Matrix.{bit, check_columns}
use Rattle.parity.proofs.Digits.{digit-zero, digit-suc}
use Rattle.parity.proofs.Sums.{bit-beyond, check_sum}
use Rattle.parity.proofs.ListLaws.{length-tabulate, get_or-tabulate}

-- columns without a one in the check row add nothing
pub check_sum-none :
    (f : ℕ → ℕ) (ℓ : ℕ) (cs ws : List ℕ) → ((i : ℕ) → i < length cs → bit ℓ (get_or cs i 0) ≡ 0) → check_sum f ℓ cs ws ≡ 0
check_sum-none f ℓ [] ws none = refl
check_sum-none f ℓ (c ∷ cs) [] none = refl
check_sum-none f ℓ (c ∷ cs) (w ∷ ws) none =
    ap₂ ◌+◌ (ap (λ x. x * f w) (none 0 (zero-lt-suc (length cs))) ∙ zero-mul (f w))
    (check_sum-none f ℓ cs ws (λ i lt. none (suc i) (suc-le-suc lt)))

-- one column with a one in the check row, in place j
pub check_sum-one : (f : ℕ → ℕ) (ℓ j : ℕ) (cs ws : List ℕ) → length ws ≡ length cs → j < length cs → bit ℓ (get_or cs j 0) ≡ 1
    → ((i : ℕ) → i < length cs → i ≢ j → bit ℓ (get_or cs i 0) ≡ 0) → check_sum f ℓ cs ws ≡ f (get_or ws j 0)
check_sum-one f ℓ j [] ws e lt one others = absurd (not-suc-le-zero lt)
check_sum-one f ℓ j (c ∷ cs) [] e lt one others = absurd (suc-ne-zero (length cs) (sym e))
check_sum-one f ℓ zero (c ∷ cs) (w ∷ ws) e lt one others =
    ap₂ ◌+◌ (ap (λ x. x * f w) one ∙ one-mul (f w)) (check_sum-none f ℓ cs ws (λ i h. others (suc i) (suc-le-suc h) (suc-ne-zero i)))
    ∙ add-zero (f w)
check_sum-one f ℓ (suc j) (c ∷ cs) (w ∷ ws) e lt one others =
    ap₂ ◌+◌ (ap (λ x. x * f w) (others 0 (zero-lt-suc (length cs)) (λ p. suc-ne-zero j (sym p))) ∙ zero-mul (f w))
    (check_sum-one f ℓ j cs ws (suc_inj e) (le_of_suc-le-suc lt) one (λ i h ne. others (suc i) (suc-le-suc h) (λ p. ne (suc_inj p))))
    ∙ zero-add (f (get_or ws j 0))

-- the one of a check column ..
pub bit-own : (ℓ : ℕ) → bit ℓ (2 ^ ℓ) ≡ 1
unfolding digit
bit-own ℓ = ap (λ x. x % 2) (div_self (pow_pos ℓ))

-- .. and its zeros
pub bit-other : (ℓ i : ℕ) → i ≢ ℓ → bit ℓ (2 ^ i) ≡ 0
bit-other zero zero ne = absurd (ne refl)
bit-other zero (suc i) ne = digit-zero 2 (2 ^ suc i) ∙ ap (λ x. x % 2) (pow-suc 2 i) ∙ mul-mod_left (2 ^ i) 2
bit-other (suc ℓ) zero ne = digit-suc 2 ℓ 1 ∙ bit-beyond 0 ℓ (pow_pos ℓ)
bit-other (suc ℓ) (suc i) ne =
    digit-suc 2 ℓ (2 ^ suc i) ∙ ap (bit ℓ) (ap (λ x. x / 2) (pow-suc 2 i) ∙ mul-div_cancel (2 ^ i) (zero-lt-suc 1))
    ∙ bit-other ℓ i (λ p. ne (ap suc p))

pub check_columns-sized : (r : ℕ) → length (check_columns r) ≡ r
unfolding check_columns
check_columns-sized r = length-tabulate r (λ i. 2 ^ i)

pub check_column : (r i : ℕ) → i < r → get_or (check_columns r) i 0 ≡ 2 ^ i
unfolding check_columns
check_column r i = get_or-tabulate r (λ i. 2 ^ i) i 0

pub check_sum-check_columns :
    (f : ℕ → ℕ) (ℓ r : ℕ) (ws : List ℕ) → length ws ≡ r → ℓ < r → check_sum f ℓ (check_columns r) ws ≡ f (get_or ws ℓ 0)
check_sum-check_columns f ℓ r ws e lt =
    check_sum-one f ℓ ℓ (check_columns r) ws (e ∙ sym (check_columns-sized r)) (rw check_columns-sized lt)
    (ap (bit ℓ) (check_column r ℓ lt) ∙ bit-own ℓ)
    (λ i h ne. ap (bit ℓ) (check_column r i (rw check_columns-sized at h)) ∙ bit-other ℓ i ne)
