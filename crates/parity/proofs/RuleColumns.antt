-- The rule columns of a shape for τ = 2 and 3: the first k of the eligible columns, of which there are as many as r check columns carry.
-- Assumes nothing.
use mathlib.Core.Path.{◌≡◌, refl, ap}
use mathlib.Core.Logic.{inl, inr, ⊎_elim}
use mathlib.Core.Bool.{Bool, true, false, cond, ◌&&◌, and-eq-true_iff}
use mathlib.Core.List.{List}
use Prim.Native.Nat.{ℕ, zero, suc, ◌%◌, ◌^◌, ◌≤◌, ◌<◌}
use native.Mathlib.Omega.{arith}
use lib.Dec.{eqb, leb, ltb}
use lib.ListN.{length, get_or, take}
use lib.Seq.{length-take-le}
use lib.Pow.{pow_mono}
use borrow.Author.Tests.{eqb-true, ne_eqb, ltb-true, leb-true}
use Rattle.parity.specs.Lists.{keep, every_to}
use Rattle.parity.specs.Shape.{digit, largest, checks}
use Rattle.parity.specs.Matrix.{weight, of_weight, column_order, eligible, rule_columns}
use Rattle.parity.specs.Claims.{Among, Precedes, Ordered, RuleColumnsClaim}
use Rattle.parity.proofs.Taken.{limits}
use Rattle.parity.proofs.Redundancy.{redundancy_claim}
use Rattle.parity.proofs.ListLaws.{grid-at, Each, each_keep, each_take, pairs-keep, pairs-take, among-keep, among-take}
use Rattle.parity.proofs.ColumnOrder.{order_claim}

-- the columns that can be rule columns, in the document's order; the rule columns are the first k of them
abbrev pub candidates : ℕ → ℕ → List ℕ
candidates τ r = keep (eligible τ r) column_order

pub rule-columns : (τ r k : ℕ) → 2 ≤ τ → rule_columns τ r k ≡ take k (candidates τ r)
unfolding rule_columns
rule-columns τ r k h = rw (ne_eqb τ 1 (λ e. omega arith))

-- they are as many as r check columns carry: computed for τ = t + 1 = 2 and 3 and each r from 1 to 8
count_test : List ℕ → ℕ → ℕ → Bool
count_test order t r = eqb (length (keep (eligible (suc t) r) order)) (largest (suc t) r)

tests-pass : every_to 2 (λ t. every_to 8 (λ r. count_test column_order (suc t) (suc r))) ≡ true
unfolding count_test column_order of_weight weight digit eligible largest
tests-pass = refl

counted : (τ r : ℕ) → 2 ≤ τ → τ ≤ 3 → 1 ≤ r → r ≤ 8 → length (candidates τ r) ≡ largest τ r
unfolding count_test
counted zero r low high r1 r8 = absurd (omega arith)
counted (suc t) r low high r1 r8 = eqb-true _ _ (grid-at 2 8 (count_test column_order) tests-pass t r (omega arith) (omega arith) r1 r8)

-- an eligible column is below 2^r
pub eligible-below : (τ r c : ℕ) → eligible τ r c ≡ true → c < 2 ^ r
unfolding eligible
eligible-below τ r c e = ltb-true c (2 ^ r) ((and-eq-true_iff (ltb c (2 ^ r)) _).0 e).0

-- it has two ones or more, so it is not 0, and for τ = 3 an odd number
pub eligible-weight : (τ r c : ℕ) → eligible τ r c ≡ true → 2 ≤ weight c
unfolding eligible
eligible-weight τ r c e = go (eqb τ 2) ((and-eq-true_iff (ltb c (2 ^ r)) _).0 e).1
  where
    go : (b : Bool) → cond b (leb 2 (weight c)) (leb 3 (weight c) && eqb (weight c % 2) 1) ≡ true → 2 ≤ weight c
    go true q = leb-true _ _ q
    go false q = omega (arith, leb-true 3 (weight c) ((and-eq-true_iff (leb 3 (weight c)) _).0 q).0)

weight-nonzero : (c : ℕ) → 2 ≤ weight c → 0 < c
unfolding weight digit
weight-nonzero zero h = absurd (omega arith)
weight-nonzero (suc c) h = omega arith

pub eligible-nonzero : (τ r c : ℕ) → eligible τ r c ≡ true → 0 < c
eligible-nonzero τ r c e = weight-nonzero c (eligible-weight τ r c e)

pub eligible-odd : (r c : ℕ) → eligible 3 r c ≡ true → weight c % 2 ≡ 1
unfolding eligible
eligible-odd r c e = eqb-true _ _ ((and-eq-true_iff (leb 3 (weight c)) _).0 ((and-eq-true_iff (ltb c (2 ^ r)) _).0 e).1).1

-- each candidate is eligible, each precedes those after it, and each eligible column is one
pub candidates-kind : (τ r : ℕ) → Each (λ c. eligible τ r c ≡ true) (candidates τ r)
candidates-kind τ r = each_keep (λ c. eligible τ r c ≡ true) (eligible τ r) column_order (λ j m q. q)

pub candidates-ordered : (τ r : ℕ) → Ordered (candidates τ r)
candidates-ordered τ r = pairs-keep Precedes (eligible τ r) column_order order_claim.ordered

pub candidates-complete : (τ r c : ℕ) → r ≤ 8 → eligible τ r c ≡ true → Among c (candidates τ r)
candidates-complete τ r c high e =
    let byte : c < 256 = omega (arith, eligible-below τ r c e, pow_mono high) in
    among-keep c (eligible τ r) column_order e (order_claim.complete c (eligible-nonzero τ r c e) byte)

-- where there are k candidates, the rule columns are k, each eligible, in the document's order
pub record Rules (τ r k : ℕ) (cs : List ℕ) : Type 0 where
  pub sized : length cs ≡ k
  pub kind : (i : ℕ) → i < k → eligible τ r (get_or cs i 0) ≡ true
  pub ordered : Ordered cs

pub rules-first : (τ r k : ℕ) → 2 ≤ τ → k ≤ length (candidates τ r) → Rules τ r k (rule_columns τ r k)
rules-first τ r k low fits =
    let list : List ℕ = candidates τ r in
    let sized : length (take k list) ≡ k = length-take-le k list fits in
    rw (rule-columns τ r k low)
    (record {
      sized = sized;
      kind = λ i l. each_take (λ c. eligible τ r c ≡ true) k list (candidates-kind τ r) i (omega arith);
      ordered = pairs-take Precedes k list (candidates-ordered τ r);
    })

pub rule_columns_claim : RuleColumnsClaim
rule_columns_claim s t h =
    let τ = s.errors in
    let r = checks s in
    let k = s.width in
    let claim = redundancy_claim s t in
    let rules = rules-first τ r k h (omega (arith, claim.carries, counted τ r h (limits s t).errors_high claim.low claim.high)) in
    record {
      sized = rules.sized;
      kind = rules.kind;
      ordered = rules.ordered;
      lightest = λ c low q.
          let e : rule_columns τ r k ≡ take k (candidates τ r) = rule-columns τ r k h in
          let a : Among c (candidates τ r) = candidates-complete τ r c claim.high q in
          rw e
          (⊎_elim inl (λ w. inr (λ i l. w i (omega (arith, ap length e, rules.sized)))) (among-take Precedes c k _ (candidates-ordered τ r) a));
    }
