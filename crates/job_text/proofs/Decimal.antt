-- Laws of `decimal`: a number below 2 ^ 64 has at most 20 digits, and from 10 on its last digit comes after the digits of its tenth.
-- Assumes nothing.
use mathlib.Core.Path.{◌≡◌, refl, sym, ◌∙◌, ap}
use mathlib.Core.Bool.{Bool, true, false, cond}
use mathlib.Core.List.{List, [], ◌∷◌, ◌++◌}
use Prim.Native.Nat.{ℕ, zero, suc, ◌+◌, ◌/◌, ◌%◌, ◌^◌, ◌≤◌, ◌<◌}
use native.Mathlib.Nat.{pow-suc, div-lt_iff_lt-mul, mod-eq_of_lt}
use native.Mathlib.Omega.{arith}
use lib.Dec.{ltb}
use lib.ListN.{length, length-append}
use borrow.Author.Tests.{ltb-true, ltb-false, lt-ltb, le-ltb}
use Rattle.job_text.specs.Text.{decimal_in, decimal}

-- a number of one digit, or the digits of its tenth and then its last digit
module _ (P : List ℕ → Type 0) (places n : ℕ) where
  digit-cases : (n < 10 → P ((48 + n) ∷ [])) → (10 ≤ n → P (decimal_in places (n / 10) ++ ((48 + n % 10) ∷ []))) → P (decimal_in (suc places) n)
  digit-cases one more = go (ltb n 10) refl
    where
      go : (b : Bool) → ltb n 10 ≡ b → P (cond b ((48 + n) ∷ []) (decimal_in places (n / 10) ++ ((48 + n % 10) ∷ [])))
      go true e = one (ltb-true n 10 e)
      go false e = more (ltb-false n 10 e)

one-digit : (places n : ℕ) → n < 10 → decimal_in (suc places) n ≡ (48 + n) ∷ []
one-digit places n h = rw (lt-ltb n 10 h)

more-digits : (places n : ℕ) → 10 ≤ n → decimal_in (suc places) n ≡ decimal_in places (n / 10) ++ ((48 + n % 10) ∷ [])
more-digits places n h = rw (le-ltb n 10 h)

length_more : (ds : List ℕ) (d : ℕ) → length (ds ++ (d ∷ [])) ≡ suc (length ds)
length_more ds d = omega (arith, length-append ds (d ∷ []))

at_most : (places n : ℕ) → length (decimal_in places n) ≤ places
at_most zero n = omega arith
at_most (suc places) n =
    digit-cases (λ ds. length ds ≤ suc places) places n (λ h. omega arith)
    (λ h. omega (arith, length_more (decimal_in places (n / 10)) (48 + n % 10), at_most places (n / 10)))

-- as many places as n needs are enough
enough : (places n : ℕ) → n < 10 ^ suc places → decimal_in (suc (suc places)) n ≡ decimal_in (suc places) n
enough zero n h = one-digit 1 n h ∙ sym (one-digit 0 n h)
enough (suc places) n h =
    digit-cases (λ ds. ds ≡ decimal_in (suc (suc places)) n) (suc (suc places)) n (λ l. sym (one-digit (suc places) n l))
    (λ l.
    ap (λ ds. ds ++ ((48 + n % 10) ∷ [])) (enough places (n / 10) ((div-lt_iff_lt-mul (omega arith)).1 (rw pow-suc at h)))
    ∙ sym (more-digits (suc places) n l))

pub decimal-one : (n : ℕ) → n < 10 → length (decimal n) ≡ 1
unfolding decimal
decimal-one n h = ap length (one-digit 19 n h)

pub decimal-more : (n : ℕ) → 10 ≤ n → n < 2 ^ 64 → decimal n ≡ decimal (n / 10) ++ ((48 + n % 10) ∷ [])
unfolding decimal
decimal-more n low high = more-digits 19 n low ∙ ap (λ ds. ds ++ ((48 + n % 10) ∷ [])) (sym (enough 18 (n / 10) (omega arith)))

pub decimal-more-length : (n : ℕ) → 10 ≤ n → n < 2 ^ 64 → length (decimal n) ≡ suc (length (decimal (n / 10)))
decimal-more-length n low high = ap length (decimal-more n low high) ∙ length_more (decimal (n / 10)) (48 + n % 10)

pub decimal-short : (n : ℕ) → length (decimal n) ≤ 20
unfolding decimal
decimal-short n = at_most 20 n

-- how many digits a number has
pub ruleset digit_counts = (decimal-one, decimal-more-length, decimal-short)

-- the last digits of n, as many as the first argument says
abbrev pub last_digits : ℕ → ℕ → List ℕ
last_digits zero n = []
last_digits (suc k) n = last_digits k (n / 10) ++ ((48 + n % 10) ∷ [])

all_digits : (places n : ℕ) → last_digits (length (decimal_in places n)) n ≡ decimal_in places n
all_digits zero n = refl
all_digits (suc places) n =
    digit-cases (λ ds. last_digits (length ds) n ≡ ds) places n (λ l. ap (λ d. (48 + d) ∷ []) (mod-eq_of_lt l))
    (λ l. rw (length_more (decimal_in places (n / 10)) (48 + n % 10)) (ap (λ ds. ds ++ ((48 + n % 10) ∷ [])) (all_digits places (n / 10))))

pub decimal-digits : (n : ℕ) → last_digits (length (decimal n)) n ≡ decimal n
unfolding decimal
decimal-digits n = all_digits 20 n
