-- The check matrix of a shape taken: n nonzero columns below 2^r, all 1 for τ = 1, distinct for τ = 2 and 3, and of odd weight for τ = 3.
-- Assumes nothing.
use mathlib.Core.Path.{◌≡◌, refl, ap, ◌∙◌}
use mathlib.Core.Logic.{◌≢◌, ◌⊎◌, inl, inr, ⊎_elim}
use mathlib.Core.Bool.{true}
use mathlib.Core.List.{List}
use Prim.Native.Nat.{ℕ, ◌%◌, ◌^◌, ◌≤◌, ◌<◌}
use native.Mathlib.Omega.{arith}
use lib.Dec.{eqb}
use lib.ListN.{length, get_or, replicate, length-append, length-replicate, get_or-replicate}
use lib.Pow.{pow_pos, pow-lt}
use borrow.Author.Tests.{eqb-true}
use Rattle.parity.specs.Lists.{every_to}
use Rattle.parity.specs.Shape.{digit, checks, columns}
use Rattle.parity.specs.Matrix.{weight, eligible, rule_columns, check_columns, matrix}
use Rattle.parity.specs.Claims.{Precedes, RightMatrix, MatrixClaim}
use Rattle.parity.specs.Questions.{Taken}
use Rattle.parity.specs.declared.Shape.{Shape}
use Rattle.parity.proofs.Taken.{errors-split}
use Rattle.parity.proofs.Redundancy.{redundancy_claim, one_check}
use Rattle.parity.proofs.ListLaws.{every_to-at, Each, each_append, each-tabulate, Pairwise, pairs-append, pairs-tabulate}
use Rattle.parity.proofs.CheckCells.{check_columns-sized}
use Rattle.parity.proofs.RuleColumns.{eligible-below, eligible-weight, eligible-nonzero, eligible-odd, rule_columns_claim}

-- a check column has one one
power-weights : every_to 8 (λ ℓ. eqb (weight (2 ^ ℓ)) 1) ≡ true
unfolding weight digit
power-weights = refl

pub power-weight : (ℓ : ℕ) → ℓ < 8 → weight (2 ^ ℓ) ≡ 1
power-weight ℓ h = eqb-true _ _ (every_to-at 8 (λ ℓ. eqb (weight (2 ^ ℓ)) 1) power-weights ℓ h)

-- a rule column is 1 for τ = 1, and eligible for more
abbrev pub RuleColumn : ℕ → ℕ → ℕ → Type 0
RuleColumn τ r c = ((τ ≡ 1) × (c ≡ 1)) ⊎ ((2 ≤ τ) × (eligible τ r c ≡ true))

pub precedes-apart : (c d : ℕ) → Precedes c d → c ≢ d
precedes-apart c d (inl h) e = omega (arith, ap weight e)
precedes-apart c d (inr h) e = omega arith

one-columns : (τ r k : ℕ) → τ ≡ 1 → rule_columns τ r k ≡ replicate k 1
unfolding rule_columns
one-columns τ r k e = rw e

abbrev rules : Shape → List ℕ
rules s = rule_columns s.errors (checks s) s.width

module _ (s : Shape) (t : Taken s) where
  pub rules-sized : length (rules s) ≡ s.width
  rules-sized =
      ⊎_elim (λ e. ap length (one-columns _ (checks s) s.width e) ∙ length-replicate s.width 1) (λ h. (rule_columns_claim s t h).sized) (errors-split s t)

  pub rules-each : Each (RuleColumn s.errors (checks s)) (rules s)
  rules-each j l =
      let l' : j < s.width = omega (arith, rules-sized) in
      ⊎_elim
      (λ e. inl (e, rw (one-columns _ (checks s) s.width e) (get_or-replicate s.width j 1 0 l')))
      (λ h. inr (h, (rule_columns_claim s t h).kind j l'))
      (errors-split s t)

  matrix-sized : length (matrix s) ≡ columns s
  unfolding matrix columns
  matrix-sized = omega (arith, length-append (rules s) (check_columns (checks s)), rules-sized, check_columns-sized (checks s))

  -- what holds of the rule columns and of the check columns holds of each column
  matrix-each :
      (P : ℕ → Type 0) → ((c : ℕ) → RuleColumn s.errors (checks s) c → P c) → ((ℓ : ℕ) → ℓ < checks s → P (2 ^ ℓ))
      → (j : ℕ) → j < columns s → P (get_or (matrix s) j 0)
  unfolding matrix check_columns
  matrix-each P rule check j l =
      each_append P (rules s) (check_columns (checks s)) (λ i m. rule _ (rules-each i m)) (each-tabulate P (checks s) (λ ℓ. 2 ^ ℓ) check) j
      (rw matrix-sized l)

  -- the order keeps the rule columns apart, their size the check columns, and the weight the ones from the others
  distinct : 2 ≤ s.errors → Pairwise ◌≢◌ (matrix s)
  unfolding matrix check_columns
  distinct h =
      let claim = rule_columns_claim s t h in
      pairs-append ◌≢◌ (rules s) (check_columns (checks s))
      (λ i j l m. precedes-apart _ _ (claim.ordered i j l m))
      (pairs-tabulate ◌≢◌ (checks s) (λ ℓ. 2 ^ ℓ) (λ i j l m e. omega (arith, pow-lt l)))
      (λ i m.
      let c : ℕ = get_or (rules s) i 0 in
      let two : 2 ≤ weight c = eligible-weight _ _ c (claim.kind i (omega (arith, claim.sized))) in
      each-tabulate (λ d. c ≢ d) (checks s) (λ ℓ. 2 ^ ℓ)
      (λ ℓ l e. omega (arith, ap weight e, power-weight ℓ (omega (arith, (redundancy_claim s t).high)))))

  right-matrix : RightMatrix s
  right-matrix =
      let claim = redundancy_claim s t in
      record {
        sized = matrix-sized;
        nonzero = matrix-each (λ c. 0 < c) (λ c. ⊎_elim (λ o. omega arith) (λ e. eligible-nonzero _ _ c e.1)) (λ ℓ h. pow_pos ℓ);
        in_checks =
            matrix-each (λ c. c < 2 ^ checks s)
            (λ c. ⊎_elim (λ o. omega (arith, pow-lt {i = 0} claim.low)) (λ e. eligible-below _ _ c e.1)) (λ ℓ h. pow-lt h);
        ones =
            λ e. matrix-each (λ c. c ≡ 1) (λ c. ⊎_elim (λ o. o.1) (λ k. absurd (omega arith)))
            (λ ℓ h. let first : ℓ ≡ 0 = omega (arith, one_check s t e) in ap (λ m. 2 ^ m) first);
        distinct = λ h i j l m. distinct h i j l (rw matrix-sized m);
        odd =
            λ e. matrix-each (λ c. weight c % 2 ≡ 1)
            (λ c. ⊎_elim (λ o. absurd (omega arith)) (λ k. eligible-odd (checks s) c (cc)))
            (λ ℓ h. ap (λ w. w % 2) (power-weight ℓ (omega arith)));
      }

pub matrix_claim : MatrixClaim
matrix_claim = right-matrix
