-- The check columns of a shape: the number carries k, none from 1 on before it does, and for one error it is 1. Assumes nothing.
use mathlib.Core.Path.{◌≡◌, refl, sym, ap, ◌∙◌}
use mathlib.Core.Logic.{◌≢◌, ⊎_elim}
use mathlib.Core.Bool.{Bool, true, false, cond, false≢true}
use Prim.Native.Nat.{ℕ, zero, suc, ◌+◌, ◌≤◌, ◌<◌}
use native.Mathlib.Nat.{eq-or-lt_of_le, le_trans, lt_of_not-le, not-le_of_lt}
use native.Mathlib.Omega.{arith}
use lib.Dec.{leb, eqb}
use borrow.Author.Tests.{leb-true, leb-false, le-leb}
use Rattle.parity.specs.Lists.{first_from}
use Rattle.parity.specs.Shape.{by_errors, largest, limit, redundancy, checks}
use Rattle.parity.specs.Claims.{RedundancyClaim}
use Rattle.parity.specs.Questions.{Taken}
use Rattle.parity.specs.declared.Shape.{Shape}
use Rattle.parity.proofs.ListLaws.{grid-at}
use Rattle.parity.proofs.Taken.{limits}

-- r is the first number from i on that passes the test, and m is no smaller
pub record First (p : ℕ → Bool) (i r m : ℕ) : Type 0 where
  pub low : i ≤ r
  pub high : r ≤ m
  pub passes : p r ≡ true
  pub least : (j : ℕ) → i ≤ j → j < r → p j ≡ false

-- first_from finds it where some number m of those asked passes
pub first-from : (p : ℕ → Bool) (n i m : ℕ) → i ≤ m → m < i + n → p m ≡ true → First p i (first_from p n i) m
first-from p zero i m low high e = absurd (omega arith)
first-from p (suc n) i m low high e = go (first-from p n (suc i) m) (p i) refl
  where
    go :
        (suc i ≤ m → m < suc i + n → p m ≡ true → First p (suc i) (first_from p n (suc i)) m)
        → (b : Bool) → p i ≡ b → First p i (first_from p (suc n) i) m
    go rest true q = simp q (record { low = omega arith; high = low; passes = q; least = λ j l h. absurd (omega arith) })
    go rest false q =
        let apart : i ≢ m = λ same. false≢true (sym q ∙ ap p same ∙ e) in
        let f = rest (omega arith) (omega arith) e in
        simp q
        (record {
          low = omega arith;
          high = f.high;
          passes = f.passes;
          least = λ j l h. ⊎_elim (λ same. ap p (sym same) ∙ q) (λ k. f.least j k h) (eq-or-lt_of_le l);
        })

-- what holds of each of three things holds of the one for τ
pub by-errors {ℓ κ} : {A : Type ℓ} (τ : ℕ) (P : A → Type κ) {one two three : A} → P one → P two → P three → P (by_errors τ one two three)
by-errors τ P {one} {two} {three} p q r = go (eqb τ 1) (eqb τ 2)
  where
    go : (a b : Bool) → P (cond a one (cond b two three))
    go true b = p
    go false true = q
    go false false = r

-- the check columns that carry the limit for τ
most : ℕ → ℕ
most τ = by_errors τ 1 8 8

most-fits : (τ : ℕ) → (1 ≤ most τ) × (most τ ≤ 8)
unfolding most
most-fits τ = by-errors τ (λ m. (1 ≤ m) × (m ≤ 8)) (omega arith) (omega arith) (omega arith)

first-checks : (s : Shape) → Taken s → First (λ r. leb s.width (largest s.errors r)) 1 (checks s) (most s.errors)
unfolding checks redundancy most limit
first-checks s t =
    let fits = most-fits s.errors in
    first-from _ 8 1 (most s.errors) fits.0 (omega arith) (le-leb _ _ (limits s t).width_high)

pub redundancy_claim : RedundancyClaim
redundancy_claim s t =
    let f = first-checks s t in
    let fits = most-fits s.errors in
    record {
      low = f.low;
      high = omega arith;
      carries = leb-true _ _ f.passes;
      least = λ r low high. leb-false _ _ (f.least r low high);
    }

pub one_check : (s : Shape) → Taken s → s.errors ≡ 1 → checks s ≡ 1
unfolding most
one_check s t e =
    let f = first-checks s t in
    let one : most s.errors ≡ 1 = ap most e in
    omega arith

-- a search that does not run to its end found a number that passes
pub first_passes : (p : ℕ → Bool) (n i : ℕ) → first_from p n i < i + n → p (first_from p n i) ≡ true
first_passes p zero i h = absurd (omega arith)
first_passes p (suc n) i h = go (p i) refl (first_passes p n (suc i))
  where
    go : (b : Bool) → p i ≡ b → (first_from p n (suc i) < suc i + n → p (first_from p n (suc i)) ≡ true) → p (cond (p i) i (first_from p n (suc i))) ≡ true
    go true q rest = rw q q
    go false q rest = rw q (rest (omega (arith, ap (λ t. cond t i (first_from p n (suc i))) q)))

pub first-low : (p : ℕ → Bool) (n i : ℕ) → i ≤ first_from p n i
first-low p zero i = omega arith
first-low p (suc n) i = go (p i) (first-low p n (suc i))
  where
    go : (b : Bool) → suc i ≤ first_from p n (suc i) → i ≤ cond b i (first_from p n (suc i))
    go true h = omega arith
    go false h = omega arith

-- no number of check columns carries more than the limit
largest-limit : (τ r : ℕ) → 1 ≤ τ → τ ≤ 3 → 1 ≤ r → r ≤ 8 → largest τ r ≤ limit τ
unfolding largest limit
largest-limit τ r t1 t3 r1 r8 = leb-true _ _ (grid-at 3 8 (λ τ r. leb (largest τ r) (limit τ)) refl τ r t1 t3 r1 r8)

-- so the search for r finds one exactly where k is within the limit
pub redundancy-limit : (τ k : ℕ) → 1 ≤ τ → τ ≤ 3 → redundancy τ k ≤ 8 → k ≤ limit τ
unfolding redundancy
redundancy-limit τ k t1 t3 h =
    let passes = leb-true _ _ (first_passes (λ r. leb k (largest τ r)) 8 1 (omega arith)) in
    le_trans passes (largest-limit τ (redundancy τ k) t1 t3 (first-low (λ r. leb k (largest τ r)) 8 1) h)

pub limit-redundancy : (τ k : ℕ) → k ≤ limit τ → redundancy τ k ≤ 8
unfolding redundancy limit most
limit-redundancy τ k h =
    let fits = most-fits τ in
    let f = first-from (λ r. leb k (largest τ r)) 8 1 (most τ) fits.0 (omega arith) (le-leb _ _ h) in
    omega (arith, f.high)

pub past-limit : (τ k : ℕ) → 8 < redundancy τ k → limit τ < k
past-limit τ k h = lt_of_not-le (λ within. not-le_of_lt h (limit-redundancy τ k within))

pub limit-high : (τ : ℕ) → 1 ≤ τ → τ ≤ 3 → limit τ ≤ 254
unfolding limit largest
limit-high τ t1 t3 = leb-true _ _ (grid-at 3 1 (λ τ r. leb (limit τ) 254) refl τ 1 t1 t3 (omega arith) (omega arith))
