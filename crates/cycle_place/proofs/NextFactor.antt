-- The factor after one that ρ does not divide: it is not divided either, and one more stands before it; past the last factor of a digit there is
-- none below q / ρ^s. Assumes nothing.
use mathlib.Core.Path.{◌≡◌, refl, sym, ap, ◌∙◌}
use mathlib.Core.Logic.{◌≢◌}
use mathlib.Core.Bool.{Bool, true, false, cond}
use Prim.Native.Nat.{ℕ, zero, suc, ◌+◌, ◌-◌, ◌*◌, ◌/◌, ◌%◌, ◌≤◌, ◌<◌}
use native.Mathlib.Nat.{suc-mod, mod-eq_of_lt, mul-mod_left}
use native.Mathlib.Numerals.{add-one, add-two}
use native.Mathlib.Omega.{arith}
use lib.Dec.{eqb}
use borrow.Author.Tests.{eqb-true, eqb-false, eq-eqb, ne_eqb}
use Rattle.parity.specs.Lists.{sum_to}
use Rattle.schedule.proofs.Counting.{apart, count-all}
use Rattle.schedule.proofs.Ranks.{factor_rank}

-- the next number, or the one after it where ρ divides that
abbrev pub next_factor : ℕ → ℕ → ℕ
next_factor ρ a = cond (eqb ((a + 1) % ρ) 0) (a + 2) (a + 1)

-- the numbers from 1 to t that ρ does not divide
abbrev count : ℕ → ℕ → ℕ
count ρ t = sum_to t (λ i. cond (apart ρ (suc i)) 1 0)

module _ (ρ : ℕ) (two : 2 ≤ ρ) where
  rank-count : (a t : ℕ) → a ≡ suc t → factor_rank ρ a ≡ count ρ t
  rank-count a t e = let own : a - 1 ≡ t = omega arith in omega (arith, count-all ρ t (omega arith), ap (λ x. x / ρ) own)

  count-more : (t : ℕ) → suc t % ρ ≢ 0 → count ρ (suc t) ≡ suc (count ρ t)
  count-more t h = rw (ne_eqb (suc t % ρ) 0 h) (add-one (count ρ t))

  count_same : (t : ℕ) → suc t % ρ ≡ 0 → count ρ (suc t) ≡ count ρ t
  count_same t e = rw (eq-eqb (suc t % ρ) 0 e) (omega arith)

  -- ρ does not divide two numbers in a row
  after-multiple : (m : ℕ) → m % ρ ≡ 0 → suc m % ρ ≢ 0
  after-multiple m e h =
      let one : suc m % ρ ≡ 1 = suc-mod m ρ ∙ ap (λ x. suc x % ρ) e ∙ mod-eq_of_lt two in
      omega arith

  pub next-undivided : (a : ℕ) → next_factor ρ a % ρ ≢ 0
  next-undivided a = go (eqb ((a + 1) % ρ) 0) refl
    where
      go : (b : Bool) → eqb ((a + 1) % ρ) 0 ≡ b → cond b (a + 2) (a + 1) % ρ ≢ 0
      go true e h = after-multiple (suc a) (rw add-one at (eqb-true ((a + 1) % ρ) 0 e)) (rw add-two at h)
      go false e h = eqb-false ((a + 1) % ρ) 0 e h

  pub next-rank : (a : ℕ) → 1 ≤ a → a % ρ ≢ 0 → factor_rank ρ (next_factor ρ a) ≡ suc (factor_rank ρ a)
  next-rank zero low h = absurd (omega arith)
  next-rank (suc t) low h = go (eqb ((suc t + 1) % ρ) 0) refl
    where
      go : (b : Bool) → eqb ((suc t + 1) % ρ) 0 ≡ b → factor_rank ρ (cond b (suc t + 2) (suc t + 1)) ≡ suc (factor_rank ρ (suc t))
      go true e =
          rank-count (suc t + 2) (suc (suc t)) (omega arith)
          ∙ count_same (suc t) (rw add-one at (eqb-true ((suc t + 1) % ρ) 0 e))
          ∙ count-more t h
          ∙ ap suc (sym (rank-count (suc t) t refl))
      go false e = rank-count (suc t + 1) (suc t) (omega arith) ∙ count-more t h ∙ ap suc (sym (rank-count (suc t) t refl))

  pub next_low : (a : ℕ) → a < next_factor ρ a
  next_low a = go (eqb ((a + 1) % ρ) 0)
    where
      go : (b : Bool) → a < cond b (a + 2) (a + 1)
      go true = omega arith
      go false = omega arith

  next-high : (a : ℕ) → next_factor ρ a ≤ a + 2
  next-high a = go (eqb ((a + 1) % ρ) 0)
    where
      go : (b : Bool) → cond b (a + 2) (a + 1) ≤ a + 2
      go true = omega arith
      go false = omega arith

  -- the last factor below a multiple of ρ is one less
  pub next_last : (a k : ℕ) → a < k * ρ → k * ρ ≤ next_factor ρ a → suc a ≡ k * ρ
  next_last a k high past =
      let other : next_factor ρ a ≢ k * ρ = λ e. next-undivided a (ap (λ x. x % ρ) e ∙ mul-mod_left k ρ) in
      omega (arith, next-high a)
