-- Of all choices of rule columns ours has the fewest ones. The chosen columns are taken off the ordered candidates one by one; each time the lightest
-- of those that were there weigh no more than the column and the lightest of those that are left. Assumes nothing.
use mathlib.Core.Path.{◌≡◌, refl, sym, ap, subst, ◌∙◌}
use mathlib.Core.Logic.{◌≢◌, inl, inr}
use mathlib.Core.Bool.{true, not}
use mathlib.Core.List.{List, [], ◌∷◌, ◌++◌}
use Prim.Native.Nat.{ℕ, zero, suc, ◌+◌, ◌^◌, ◌≤◌, ◌<◌, suc-le-suc}
use native.Mathlib.Nat.{le_refl, mul-le-mul, le_of_suc-le-suc, not-suc-le-zero, zero-lt-suc}
use native.Mathlib.Omega.{arith}
use lib.Dec.{eqb, ltb}
use lib.ListN.{length, take}
use lib.Pow.{pow-lt}
use borrow.Author.Tests.{eq-eqb, ne_eqb, ltb-true}
use Rattle.parity.specs.Lists.{keep, every, sum_over}
use Rattle.parity.specs.Shape.{digit, checks}
use Rattle.parity.specs.Matrix.{weight, of_weight, column_order, eligible, rule_columns, check_columns, matrix, matrix_ones, ones_of, lookups}
use Rattle.parity.specs.Questions.{Taken}
use Rattle.parity.specs.Claims.{Among, Precedes, Ordered}
use Rattle.parity.specs.Fewest.{Choice, FewestClaim, ones_beside, FewestLookups, FewestLookupsClaim, AcrossClaim, ChoiceExamplesClaim}
use Rattle.parity.specs.declared.Shape.{Shape}
use Rattle.parity.proofs.ListLaws.{
  sum-append,
  every-at,
  Each,
  each_append,
  each-tabulate,
  Pairwise,
  chained,
  chained-pairs,
  pairs-head,
  pairs-tail,
  pairs-keep,
  keep_all,
  among-keep,
}
use Rattle.parity.proofs.Taken.{limits}
use Rattle.parity.proofs.Redundancy.{redundancy_claim}
use Rattle.parity.proofs.RuleColumns.{candidates, rule-columns, eligible-below, candidates-ordered, candidates-complete, rules-first}
use Rattle.parity.proofs.MatrixFacts.{precedes-apart}
use Rattle.parity.proofs.MatrixOnes.{ones-weights, matrix_ones-ones}

-- all columns but c
abbrev others : ℕ → List ℕ → List ℕ
others c = keep (λ x. not (eqb x c))

passes : (x c : ℕ) → x ≢ c → not (eqb x c) ≡ true
passes x c apart = ap not (ne_eqb x c apart)

precedes-light : (c d : ℕ) → Precedes c d → weight c ≤ weight d
precedes-light c d (inl h) = omega arith
precedes-light c d (inr h) = omega arith

-- c off a list: one column less, and the n + 1 lightest of the list weigh at most c and the n lightest of what is left
record Off (c : ℕ) (xs left : List ℕ) : Type 0 where
  shorter : length xs ≡ suc (length left)
  lighter : (n : ℕ) → sum_over (take (suc n) xs) weight ≤ weight c + sum_over (take n left) weight

-- the first column off
off-first : (c : ℕ) (xs : List ℕ) → Off c (c ∷ xs) xs
off-first c xs = record { shorter = refl; lighter = λ n. omega arith }

-- a later one off: the first column is no heavier, and stays
off-later : (c x : ℕ) (xs left : List ℕ) → weight x ≤ weight c → Off c xs left → Off c (x ∷ xs) (x ∷ left)
off-later c x xs left light off = record { shorter = ap suc off.shorter; lighter = lighter }
  where
    lighter : (n : ℕ) → sum_over (take (suc n) (x ∷ xs)) weight ≤ weight c + sum_over (take n (x ∷ left)) weight
    lighter zero = omega arith
    lighter (suc n) = omega (arith, off.lighter n)

off : (c : ℕ) (xs : List ℕ) → Ordered xs → Among c xs → Off c xs (others c xs)
off c [] ordered a = absurd (not-suc-le-zero a.1)
off c (x ∷ xs) ordered (zero, l, e) =
    let apart : Each (λ d. not (eqb d x) ≡ true) xs = λ j m. passes _ x (λ q. precedes-apart x _ (pairs-head Precedes x xs ordered j m) (sym q)) in
    subst (λ (d : ℕ). Off d (x ∷ xs) (others d (x ∷ xs))) e (rw (eq-eqb x x refl, keep_all (λ d. not (eqb d x)) xs apart) (off-first x xs))
off c (x ∷ xs) ordered (suc i, l, e) =
    let before : Precedes x c = subst (Precedes x) e (ordered zero (suc i) (zero-lt-suc i) l) in
    rw (passes x c (precedes-apart x c before))
    (off-later c x xs (others c xs) (precedes-light x c before) (off c xs (pairs-tail Precedes x xs ordered) (i, le_of_suc-le-suc l, e)))

-- the lightest candidates, as many as are chosen, are there, and weigh no more
lightest :
    (cs xs : List ℕ) → Ordered xs → Each (λ c. Among c xs) cs → Pairwise ◌≢◌ cs
    → (length cs ≤ length xs) × (sum_over (take (length cs) xs) weight ≤ sum_over cs weight)
lightest [] xs ordered among apart = (omega arith, omega arith)
lightest (c ∷ cs) xs ordered among apart =
    let o : Off c xs (others c xs) = off c xs ordered (among 0 (zero-lt-suc _)) in
    let here : Each (λ d. Among d (others c xs)) cs =
    λ j l. among-keep _ (λ x. not (eqb x c)) xs (passes _ c (λ e. pairs-head ◌≢◌ c cs apart j l (sym e))) (among (suc j) (suc-le-suc l)) in
    let rest = lightest cs (others c xs) (pairs-keep Precedes (λ x. not (eqb x c)) xs ordered) here (pairs-tail ◌≢◌ c cs apart) in
    (omega (arith, o.shorter, rest.0), omega (arith, o.lighter (length cs), rest.1))

pub fewest_claim : FewestClaim
fewest_claim τ r k low high r8 cs choice =
    let list : List ℕ = candidates τ r in
    let among : Each (λ c. Among c list) cs = λ j l. candidates-complete τ r _ r8 (choice.kind j (omega (arith, choice.sized))) in
    let both = lightest cs list (candidates-ordered τ r) among (λ i j l m. choice.distinct i j l (omega (arith, choice.sized))) in
    let rules = rules-first τ r k low (omega (arith, choice.sized, both.0)) in
    record {
      ours =
          record {
            sized = rules.sized;
            kind = rules.kind;
            distinct = λ i j l m. precedes-apart _ _ (rules.ordered i j l (omega (arith, rules.sized)));
          };
      ones =
          rw (rule-columns τ r k low) (subst (λ (n : ℕ). sum_over (take n list) weight ≤ sum_over cs weight) choice.sized both.1);
    }

-- ---- the same in the paper's terms

-- a choice and the check columns: the weights of both
beside-weights :
    (τ r k : ℕ) (cs : List ℕ) → r ≤ 8 → Choice τ r k cs → ones_beside r cs ≡ sum_over cs weight + sum_over (check_columns r) weight
unfolding check_columns
beside-weights τ r k cs r8 choice =
    ones-weights r (cs ++ check_columns r) r8
    (each_append (λ c. c < 2 ^ r) cs (check_columns r)
    (λ j l. eligible-below τ r _ (choice.kind j (omega (arith, choice.sized))))
    (each-tabulate (λ c. c < 2 ^ r) r (λ ℓ. 2 ^ ℓ) (λ ℓ l. pow-lt l)))
    ∙ sum-append weight cs (check_columns r)

fewest-lookups : (s : Shape) → Taken s → 2 ≤ s.errors → (cs : List ℕ) → Choice s.errors (checks s) s.width cs → FewestLookups s cs
unfolding matrix lookups
fewest-lookups s t h cs choice = record { ones = ones; cycle = λ z. mul-le-mul (le_refl _) ones }
  where
    ones : matrix_ones s ≤ ones_beside (checks s) cs
    ones =
        let weights = beside-weights s.errors (checks s) s.width in
        let r8 : checks s ≤ 8 = (redundancy_claim s t).high in
        let fewest = fewest_claim s.errors (checks s) s.width h (limits s t).errors_high r8 cs choice in
        omega (arith, matrix_ones-ones s, weights _ r8 fewest.ours, fewest.ones, weights cs r8 choice)

pub fewest_lookups_claim : FewestLookupsClaim
fewest_lookups_claim = record { counted = matrix_ones-ones; fewest = fewest-lookups }

-- ---- computed: across r, and choices that are not ours

pub across_claim : AcrossClaim
unfolding ones_of rule_columns check_columns column_order of_weight weight eligible digit
across_claim = record { fifty = refl; twenty_six = refl }

-- eligible columns that fall are a choice
falling-choice : (τ r : ℕ) (cs : List ℕ) → every (eligible τ r) cs ≡ true → chained (λ c d. ltb d c) cs ≡ true → Choice τ r (length cs) cs
falling-choice τ r cs kinds falls =
    let falling : Pairwise (λ c d. d < c) cs =
    chained-pairs (λ c d. d < c) (λ c d e h k. omega arith) (λ c d. ltb d c) (λ c d. ltb-true d c) cs falls in
    record { sized = refl; kind = every-at (eligible τ r) cs 0 kinds; distinct = λ i j l m e. omega (arith, falling i j l m) }

pub choice_examples_claim : ChoiceExamplesClaim
unfolding rule_columns column_order of_weight weight eligible digit
choice_examples_claim =
    record {
      two = falling-choice 2 3 (7 ∷ 6 ∷ 5 ∷ []) refl refl;
      three = falling-choice 3 5 (31 ∷ 7 ∷ []) refl refl;
      ones = refl;
    }
