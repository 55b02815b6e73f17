-- The digits of a number in radix ρ: each is below ρ, two numbers of b digits with the same digits are equal, and the number made of given
-- digits has those digits. Assumes nothing.
use mathlib.Core.Path.{◌≡◌, sym, ◌∙◌, ap, ap₂}
use Prim.Native.Nat.{ℕ, zero, suc, ◌+◌, ◌*◌, ◌/◌, ◌%◌, ◌^◌, ◌<◌, suc-le-suc}
use native.Mathlib.Nat.{mod-lt, div-one, div-div-eq-div-mul, div-lt_iff_lt-mul, div-add-mod', pow-zero, pow-suc, pow-succ', zero-lt-suc, le_of_suc-le-suc}
use native.Mathlib.Omega.{arith}
use lib.Arith.{digits_lt, digits_div, digits_mod}
use Rattle.parity.specs.Shape.{digit}
use Rattle.parity.specs.Codeword.{number}

pub digit-below : (ρ s v : ℕ) → 0 < ρ → digit ρ s v < ρ
unfolding digit
digit-below ρ s v pos = mod-lt (v / ρ ^ s) pos

pub digit-zero : (ρ v : ℕ) → digit ρ 0 v ≡ v % ρ
unfolding digit
digit-zero ρ v = ap (λ x. v / x % ρ) (pow-zero ρ) ∙ ap (λ x. x % ρ) (div-one v)

pub digit-suc : (ρ s v : ℕ) → digit ρ (suc s) v ≡ digit ρ s (v / ρ)
unfolding digit
digit-suc ρ s v = ap (λ x. v / x % ρ) (pow-succ' ρ s) ∙ ap (λ x. x % ρ) (sym (div-div-eq-div-mul v ρ (ρ ^ s)))

-- a number of b + 1 digits without its lowest digit is one of b digits
shift-below : (ρ b : ℕ) {v : ℕ} → 0 < ρ → v < ρ ^ suc b → v / ρ < ρ ^ b
shift-below ρ b pos h = (div-lt_iff_lt-mul pos).1 (rw pow-suc at h)

-- two numbers of b digits with the same digits are equal
pub digits-equal :
    (ρ b : ℕ) {v w : ℕ} → 0 < ρ → v < ρ ^ b → w < ρ ^ b → ((s : ℕ) → s < b → digit ρ s v ≡ digit ρ s w) → v ≡ w
digits-equal ρ zero pos hv hw same = omega (arith, pow-zero ρ)
digits-equal ρ (suc b) {v} {w} pos hv hw same =
    let low : v % ρ ≡ w % ρ = sym (digit-zero ρ v) ∙ same 0 (zero-lt-suc b) ∙ digit-zero ρ w in
    let others : (s : ℕ) → s < b → digit ρ s (v / ρ) ≡ digit ρ s (w / ρ) =
    λ s lt. sym (digit-suc ρ s v) ∙ same (suc s) (suc-le-suc lt) ∙ digit-suc ρ s w in
    let high : v / ρ ≡ w / ρ = digits-equal ρ b pos (shift-below ρ b pos hv) (shift-below ρ b pos hw) others in
    sym (div-add-mod' v ρ) ∙ ap₂ (λ x y. x * ρ + y) high low ∙ div-add-mod' w ρ

-- the lowest digit apart from the others (Horner's form)
pub number-suc : (ρ b : ℕ) (e : ℕ → ℕ) → number ρ (suc b) e ≡ number ρ b (λ s. e (suc s)) * ρ + e 0
unfolding number
number-suc ρ zero e = omega (arith, ap (λ x. e 0 * x) (pow-zero ρ))
number-suc ρ (suc b) e = omega (arith, number-suc ρ b e, ap (λ x. e (suc b) * x) (pow-suc ρ b))

pub number-below : (ρ b : ℕ) (e : ℕ → ℕ) → ((s : ℕ) → s < b → e s < ρ) → number ρ b e < ρ ^ b
unfolding number
number-below ρ zero e below = omega (arith, pow-zero ρ)
number-below ρ (suc b) e below =
    rw (number-suc ρ b e, pow-suc) (digits_lt (number-below ρ b (λ s. e (suc s)) (λ s lt. below (suc s) (suc-le-suc lt))) (below 0 (zero-lt-suc b)))

pub digit-number :
    (ρ b : ℕ) (e : ℕ → ℕ) → 0 < ρ → ((s : ℕ) → s < b → e s < ρ) → (s : ℕ) → s < b → digit ρ s (number ρ b e) ≡ e s
digit-number ρ zero e pos below s lt = absurd (omega arith)
digit-number ρ (suc b) e pos below zero lt =
    digit-zero ρ (number ρ (suc b) e) ∙ ap (λ x. x % ρ) (number-suc ρ b e)
    ∙ digits_mod (number ρ b (λ s. e (suc s))) (below 0 lt)
digit-number ρ (suc b) e pos below (suc s) lt =
    digit-suc ρ s (number ρ (suc b) e)
    ∙ ap (digit ρ s) (ap (λ x. x / ρ) (number-suc ρ b e) ∙ digits_div (number ρ b (λ t. e (suc t))) (below 0 (zero-lt-suc b)))
    ∙ digit-number ρ b (λ t. e (suc t)) pos (λ t h. below (suc t) (suc-le-suc h)) s (le_of_suc-le-suc lt)

pub number_digits : (ρ b v : ℕ) → 0 < ρ → v < ρ ^ b → number ρ b (λ s. digit ρ s v) ≡ v
number_digits ρ b v pos h =
    digits-equal ρ b pos (number-below ρ b (λ s. digit ρ s v) (λ s lt. digit-below ρ s v pos)) h
    (digit-number ρ b (λ s. digit ρ s v) pos (λ s lt. digit-below ρ s v pos))
