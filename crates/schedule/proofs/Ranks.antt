-- The place of a column in J(ℓ) is its rank, and that of a factor a is (a − 1) − (a − 1) / ρ; the last factor is q / ρ^d − 1. Assumes nothing.
use mathlib.Core.Path.{◌≡◌, refl, sym, ap, ◌∙◌}
use mathlib.Core.Logic.{◌≢◌}
use mathlib.Core.Bool.{Bool, true, false, cond, not}
use mathlib.Core.List.{List}
use Prim.Native.Nat.{ℕ, suc, ◌+◌, ◌-◌, ◌*◌, ◌/◌, ◌%◌, ◌≤◌, ◌<◌}
use native.Mathlib.Omega.{arith}
use lib.Arith.{digits_div, digits_mod, mul_pred}
use lib.Dec.{eqb}
use lib.ListN.{length, get_or, take}
use lib.Seq.{take-length}
use borrow.Author.Tests.{eqb-true, eqb-false, eq-eqb, ne_eqb, not-true}
use Rattle.parity.specs.Lists.{tabulate, keep}
use Rattle.parity.specs.Shape.{levels, columns}
use Rattle.parity.specs.Matrix.{bit, matrix, places_from, support}
use Rattle.parity.specs.Questions.{Taken}
use Rattle.parity.specs.declared.Shape.{Shape}
use Rattle.parity.proofs.MatrixFacts.{matrix_claim}
use Rattle.schedule.specs.Schedule.{factors}
use Rattle.schedule.specs.Index.{rank, span}
use Rattle.schedule.proofs.Sums.{sum-tabulate, sum-keep, length-sum}
use Rattle.schedule.proofs.Powers.{quotient-some, quotient-next}
use Rattle.schedule.proofs.Counting.{apart, count-all, factors-count}
use Rattle.schedule.proofs.Factors.{factors-some}
use Rattle.schedule.proofs.Stands.{Stands, stands_same}
use Rattle.schedule.proofs.Chosen.{chosen, stands-chosen, chosen-part, keep-chosen, places-chosen}

-- ---- the columns of J(ℓ)

-- whether column j has bit ℓ set
abbrev holds : Shape → ℕ → ℕ → Bool
holds s ℓ j = eqb (bit ℓ (get_or (matrix s) j 0)) 1

-- those among the first n that have
abbrev held : Shape → ℕ → ℕ → List ℕ
held s ℓ n = chosen n (holds s ℓ) (λ j. j)

module _ (s : Shape) (t : Taken s) (ℓ : ℕ) where
  rank-held : (j : ℕ) → j ≤ columns s → rank s ℓ j ≡ length (held s ℓ j)
  unfolding rank
  rank-held j h = ap length (places-chosen ℓ (matrix s) j (omega (arith, (matrix_claim s t).sized)))

  support-held : support s ℓ ≡ held s ℓ (columns s)
  unfolding support
  support-held =
      ap (places_from 0 ℓ) (sym (take-length (matrix s)) ∙ ap (λ n. take n (matrix s)) (matrix_claim s t).sized)
      ∙ places-chosen ℓ (matrix s) (columns s) (omega (arith, (matrix_claim s t).sized))

  pub stands-support : (j : ℕ) → j < columns s → bit ℓ (get_or (matrix s) j 0) ≡ 1 → Stands (support s ℓ) (rank s ℓ j) j
  stands-support j h e = rw (support-held, rank-held j (omega arith)) (stands-chosen (columns s) (holds s ℓ) (λ j. j) j h (eq-eqb _ 1 e))

  pub support-part :
      (r : ℕ) → r < length (support s ℓ) → (j : ℕ) × (j < columns s) × (bit ℓ (get_or (matrix s) j 0) ≡ 1) × (rank s ℓ j ≡ r)
  support-part r h =
      let k = chosen-part (columns s) (holds s ℓ) (λ j. j) r (rw support-held at h) in
      (k.0, k.1, eqb-true _ 1 k.2, rank-held k.0 (omega arith) ∙ k.3)

-- ---- the factors of digit d

-- how many numbers from 1 on that ρ does not divide are below a
abbrev pub factor_rank : ℕ → ℕ → ℕ
factor_rank ρ a = a - 1 - (a - 1) / ρ

-- the numbers from 1 to n that ρ does not divide
abbrev apart_to : ℕ → ℕ → List ℕ
apart_to ρ n = chosen n (λ i. apart ρ (suc i)) suc

apart-count : (ρ n : ℕ) → 0 < ρ → length (apart_to ρ n) ≡ n - n / ρ
apart-count ρ n pos =
    omega (
      arith,
      ap length (keep-chosen (apart ρ) n suc),
      length-sum (keep (apart ρ) (tabulate n suc)),
      sum-keep (λ a. 1) (apart ρ) (tabulate n suc),
      sum-tabulate (λ a. cond (apart ρ a) 1 0) n suc,
      count-all ρ n pos,
    )

pub record Factor (s : Shape) (d a : ℕ) : Type 0 where
  pub low : 1 ≤ a
  pub high : a < span s d
  pub undivided : a % s.radix ≢ 0

module _ (s : Shape) (two : 2 ≤ s.radix) (d : ℕ) (lt : d < s.digits) where
  factors-apart : factors s d ≡ apart_to s.radix (span s d - 1)
  unfolding factors span
  factors-apart = keep-chosen (apart s.radix) (span s d - 1) suc

  pub stands-factor : (a : ℕ) → Factor s d a → Stands (factors s d) (factor_rank s.radix a) a
  stands-factor a h =
      let own : suc (a - 1) ≡ a = omega arith in
      let passes : apart s.radix (suc (a - 1)) ≡ true = rw own (ap not (ne_eqb _ 0 h.undivided)) in
      rw (factors-apart, ← apart-count s.radix (a - 1) (omega arith))
      (rw own at (stands-chosen (span s d - 1) (λ i. apart s.radix (suc i)) suc (a - 1) (omega arith) passes))

  pub factor-part : (c : ℕ) → c < length (factors s d) → (a : ℕ) × Factor s d a × (factor_rank s.radix a ≡ c)
  factor-part c h =
      let k = chosen-part (span s d - 1) (λ i. apart s.radix (suc i)) suc c (rw factors-apart at h) in
      let own : suc k.0 - 1 ≡ k.0 = omega arith in (
        suc k.0,
        record { low = omega arith; high = omega arith; undivided = eqb-false _ 0 (not-true _ k.2) },
        rw (own, ← apart-count s.radix k.0 (omega arith)) k.3,
      )

  -- q / ρ^d − 1 is one less than a multiple of ρ ..
  pub span-some : 0 < span s (suc d)
  unfolding span levels
  span-some = quotient-some s.radix s.digits (omega arith) (suc d) lt

  span-before : span s d - 1 ≡ (span s (suc d) - 1) * s.radix + (s.radix - 1)
  unfolding span levels
  span-before = ap (λ x. x - 1) (quotient-next s.radix s.digits (omega arith) d lt) ∙ mul_pred span-some (omega arith)

  pub span-step : length (factors s d) + span s (suc d) ≡ span s d
  unfolding span
  span-step = factors-count s (omega arith) d lt

  -- .. so it is a factor ..
  top-factor : Factor s d (span s d - 1)
  top-factor =
      let rest = ap (λ x. x % s.radix) span-before ∙ digits_mod (span s (suc d) - 1) {m = s.radix} {r = s.radix - 1} (omega arith) in
      omega (arith, span-some, span-step, factors-some s two d lt)

  -- .. and the last
  top-rank : suc (factor_rank s.radix (span s d - 1)) ≡ length (factors s d)
  top-rank =
      let before : span s d - 1 - 1 ≡ (span s (suc d) - 1) * s.radix + (s.radix - 2) = omega (arith, span-before) in
      omega (
        arith,
        ap (λ x. x / s.radix) before ∙ digits_div (span s (suc d) - 1) {m = s.radix} {r = s.radix - 2} (omega arith),
        span-step,
        span-some,
        factors-some s two d lt,
      )

  pub factor-last : (a : ℕ) → Factor s d a → eqb (suc (factor_rank s.radix a)) (length (factors s d)) ≡ eqb (suc a) (span s d)
  factor-last a h = go (eqb (suc a) (span s d)) refl
    where
      top : ℕ
      top = span s d - 1

      go : (b : Bool) → eqb (suc a) (span s d) ≡ b → eqb (suc (factor_rank s.radix a)) (length (factors s d)) ≡ b
      go true e =
          let same : a ≡ top = omega (arith, eqb-true (suc a) (span s d) e) in
          eq-eqb _ _ (ap (λ x. suc (factor_rank s.radix x)) same ∙ top-rank)
      go false e =
          ne_eqb _ _ λ (p : suc (factor_rank s.radix a) ≡ length (factors s d)).
          let level : factor_rank s.radix a ≡ factor_rank s.radix top = omega (arith, top-rank) in
          let same : a ≡ top =
          stands_same (factors s d) (factor_rank s.radix a) a top (stands-factor a h) (rw level (stands-factor top top-factor)) in
          eqb-false (suc a) (span s d) e (omega arith)
