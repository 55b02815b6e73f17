-- Congruence modulo ρ as equal remainders: it goes through sums and multiples, and a summand can be cancelled. Assumes nothing.
use mathlib.Core.Path.{◌≡◌, refl, sym, ◌∙◌, ap, ap₂}
use Prim.Native.Nat.{ℕ, zero, suc, ◌+◌, ◌-◌, ◌*◌, ◌%◌, ◌<◌}
use native.Mathlib.Nat.{add-mod, mod-mod, mod-lt, mod_self, mod-eq_of_lt, zero-mod, add-zero, add_assoc, add-sub_of_le, le_of_lt, mod-add-mod}
use native.Mathlib.Nat.{zero-mul, suc-mul}

-- a record, so that a use need not write a and b
pub record Same (ρ a b : ℕ) : Type 0 where
  pub rem : a % ρ ≡ b % ρ

pub same-eq : {ρ a b : ℕ} → a ≡ b → Same ρ a b
same-eq {ρ} p = record { rem = ap (λ x. x % ρ) p }

pub same-sym : {ρ a b : ℕ} → Same ρ a b → Same ρ b a
same-sym p = record { rem = sym p.rem }

pub same-trans : {ρ a b c : ℕ} → Same ρ a b → Same ρ b c → Same ρ a c
same-trans p q = record { rem = p.rem ∙ q.rem }

pub same_add : {ρ a b c d : ℕ} → Same ρ a b → Same ρ c d → Same ρ (a + c) (b + d)
same_add {ρ} {a} {b} {c} {d} p q =
    record { rem = add-mod a c ρ ∙ ap₂ (λ x y. (x + y) % ρ) p.rem q.rem ∙ sym (add-mod b d ρ) }

pub same-times : {ρ a b : ℕ} (n : ℕ) → Same ρ a b → Same ρ (n * a) (n * b)
same-times {a = a} {b = b} zero p = same-eq (zero-mul a ∙ sym (zero-mul b))
same-times {a = a} {b = b} (suc n) p = same-trans (same-eq (suc-mul n a)) (same-trans (same_add (same-times n p) p) (same-eq (sym (suc-mul n b))))

-- a number is congruent to its remainder
pub same-mod : (ρ a : ℕ) → Same ρ (a % ρ) a
same-mod ρ a = record { rem = mod-mod a ρ }

-- what brings a number to 0: its complement
pub complement : {ρ : ℕ} → 0 < ρ → (c : ℕ) → Same ρ (c + (ρ - c % ρ)) 0
complement {ρ} pos c =
    record { rem = sym (mod-add-mod c ρ (ρ - c % ρ)) ∙ ap (λ x. x % ρ) (add-sub_of_le (le_of_lt (mod-lt c pos))) ∙ mod_self ρ ∙ sym (zero-mod ρ) }

pub same-cancel : {ρ a b : ℕ} → 0 < ρ → (c : ℕ) → Same ρ (a + c) (b + c) → Same ρ a b
same-cancel {ρ} {a} {b} pos c p = same-trans (same-sym (away a)) (same-trans (same_add p (same-eq {a = ρ - c % ρ} refl)) (away b))
  where
    away : (x : ℕ) → Same ρ (x + c + (ρ - c % ρ)) x
    away x =
        same-trans (same-eq (add_assoc x c (ρ - c % ρ)))
        (same-trans (same_add (same-eq {a = x} refl) (complement pos c)) (same-eq (add-zero x)))

-- congruent numbers taken from congruent sums
pub same-minus : {ρ a b c d : ℕ} → 0 < ρ → Same ρ (a + c) (b + d) → Same ρ c d → Same ρ a b
same-minus {a = a} {d = d} pos p q = same-cancel pos d (same-trans (same_add (same-eq {a = a} refl) (same-sym q)) p)

pub same-below : {ρ a b : ℕ} → a < ρ → b < ρ → Same ρ a b → a ≡ b
same-below ha hb p = sym (mod-eq_of_lt ha) ∙ p.rem ∙ mod-eq_of_lt hb

-- a remainder of 0 is congruence to 0
pub same-zero : {ρ a : ℕ} → a % ρ ≡ 0 → Same ρ a 0
same-zero {ρ} p = record { rem = p ∙ sym (zero-mod ρ) }

pub zero_same : {ρ a : ℕ} → Same ρ a 0 → a % ρ ≡ 0
zero_same {ρ} p = p.rem ∙ zero-mod ρ
