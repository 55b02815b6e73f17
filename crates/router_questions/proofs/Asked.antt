-- What it says of the router's arguments that no question on them fails; and that no question then fails of what is asked of the array. Assumes nothing.
use mathlib.Core.Path.{◌≡◌, refl, ◌∙◌}
use mathlib.Core.Bool.{true}
use mathlib.Core.List.{List, [], ◌∷◌, ◌++◌}
use Prim.Native.Nat.{ℕ, ◌+◌, ◌%◌, ◌<◌}
use native.Mathlib.Omega.{arith}
use lib.Dec.{eqb, leb, ltb, lit<}
use lib.ListN.{length, get_or}
use borrow.Author.Tests.{eqb-true, ltb-true, eq-eqb, le-leb, lt-ltb}
use Rattle.parity.specs.Lists.{every}
use Rattle.parity.specs.Shape.{levels, cell_count}
use Rattle.parity.specs.Claims.{Below}
use Rattle.parity.specs.Questions.{Question, first_no, Taken, lengths_question}
use Rattle.parity.specs.declared.Shape.{Shape}
use Rattle.parity.proofs.Alongside.{equal-alongside}
use Rattle.parity.proofs.ListLaws.{every-at, every-passes}
use Rattle.parity.proofs.Taken.{first-yes}
use Rattle.shape.proofs.Refusals.{length-lent, call-passed, call-rest}
use Rattle.array_memory.specs.Lengths.{cells_wanted, array_wanted}
use Rattle.array_questions.specs.Questions.{cells_questions, program_arguments}
use Rattle.array_questions.proofs.Asked.{row_reads, program-fits}
use Rattle.array_lookup.specs.Lookups.{array_questions, first_arguments}
use Rattle.router_ranges.specs.Ranges.{Ranges, features, rule_levels, bottle_inputs}
use Rattle.router_ranges.specs.Claims.{Proper, Bottle}
use Rattle.router_ranges.proofs.Ranges.{levels-sized, levels-below, inputs-sized, inputs-below}
use Rattle.router_questions.specs.Questions.{features_question, router_questions, rule_at_arguments, rule_at_questions, given_questions, rule_questions}
use Rattle.router_questions.specs.Questions.{route_arguments, route_questions}

-- ---- k is even, and f is the half of it

even-width : (s : Shape) → first_no (features_question s ∷ []) ≡ 0 → features s + features s ≡ s.width
unfolding features
even-width s e =
    let even : s.width % 2 ≡ 0 = eqb-true (s.width % 2) 0 (first-yes _ 0 18 (lit< tt) e).0 in
    omega arith

width-even : (s : Shape) → features s + features s ≡ s.width → eqb (s.width % 2) 0 ≡ true
unfolding features
width-even s e = eq-eqb (s.width % 2) 0 (omega arith)

-- levels below q, f of them
below-given : (q f : ℕ) (given : List ℕ) → length given ≡ f → every (λ v. ltb v q) given ≡ true → Below q f given
below-given q f given e tested j h = ltb-true _ _ (every-at (λ v. ltb v q) given 0 tested j (omega arith))

-- ---- rule at, and rule

-- by the numbers of cells, belts, lows and highs
pub record RuleAtTaken (s : Shape) (cell_number belt_number row low_number high_number : ℕ) : Type 0 where
  pub taken : Taken s
  pub even : features s + features s ≡ s.width
  pub cells : cell_number ≡ cell_count s
  pub belts : belt_number ≡ s.rows
  pub lows : low_number ≡ features s
  pub highs : high_number ≡ features s
  pub place : row < s.rows

module _ (s : Shape) (cells belts row : ℕ) where
  abbrev wanted : List ℕ
  wanted = cells_wanted s ++ s.rows ∷ []

  -- what both ask, and then what is asked after it
  at-parts :
      (lows highs : ℕ) (more : List Question) → first_no (router_questions s (cells ∷ belts ∷ []) wanted (rule_at_arguments s row lows highs ++ more)) ≡ 0
      → RuleAtTaken s cells belts row lows highs × (first_no more ≡ 0)
  at-parts lows highs more none =
      let p =
      call-passed s (features_question s ∷ []) (lengths_question (cells ∷ belts ∷ []) wanted) (rule_at_arguments s row lows highs ++ more) refl (lit< tt)
      none in
      let lent = length-lent (cells ∷ belts ∷ []) wanted p.lent in
      let six = first-yes (lengths_question (lows ∷ highs ∷ []) (features s ∷ features s ∷ [])).holds _ 6 (lit< tt) p.arguments in
      let own = length-lent (lows ∷ highs ∷ []) (features s ∷ features s ∷ []) six.0 in
      let seven = row_reads s row more six.1 in (
        record {
          taken = p.taken;
          even = even-width s p.numbers;
          cells = lent 0;
          belts = lent 1;
          lows = own 0;
          highs = own 1;
          place = seven.0;
        },
        seven.1,
      )

  pub rule-at-taken : (lows highs : ℕ) → first_no (rule_at_questions s cells belts row lows highs) ≡ 0 → RuleAtTaken s cells belts row lows highs
  rule-at-taken lows highs none = (at-parts lows highs [] none).0

  pub rule-at-fits : (lows highs : ℕ) → RuleAtTaken s cells belts row lows highs → first_no (rule_at_questions s cells belts row lows highs) ≡ 0
  rule-at-fits lows highs p =
      call-rest s (features_question s ∷ []) (lengths_question (cells ∷ belts ∷ []) wanted) (rule_at_arguments s row lows highs) p.taken
      (equal-alongside (cells ∷ belts ∷ []) wanted (λ i. p.cells i ∷ p.belts i ∷ []))
      ∙ simp (
        width-even s p.even,
        equal-alongside (lows ∷ highs ∷ []) (features s ∷ features s ∷ []) (λ i. p.lows i ∷ p.highs i ∷ []),
        lt-ltb row s.rows p.place,
      )

  pub record RuleTaken (ranges : Ranges) : Type 0 where
    pub at : RuleAtTaken s cells belts row (length ranges.lows) (length ranges.highs)
    pub proper : Proper (levels s) (features s) ranges

  pub rule-taken : (ranges : Ranges) → first_no (rule_questions s cells belts row ranges) ≡ 0 → RuleTaken ranges
  rule-taken ranges none =
      let parts = at-parts (length ranges.lows) (length ranges.highs) (given_questions s ranges) none in
      let at = parts.0 in
      let low = first-yes (every (λ v. ltb v (levels s)) ranges.lows) _ 8 (lit< tt) parts.1 in
      let high = first-yes (every (λ v. ltb v (levels s)) ranges.highs) _ 8 (lit< tt) low.1 in
      record {
        at = at;
        proper =
            record {
              low_count = at.lows;
              high_count = at.highs;
              low = below-given (levels s) (features s) ranges.lows at.lows low.0;
              high = below-given (levels s) (features s) ranges.highs at.highs high.0;
            };
      }

  -- the programming of a rule's levels is taken
  pub rule-programs :
      (ranges : Ranges) → RuleTaken ranges → first_no (cells_questions s cells (program_arguments s row (rule_levels (levels s) ranges))) ≡ 0
  rule-programs ranges p =
      let at = p.at in
      let sized = levels-sized (levels s) (features s) ranges p.proper in
      let below = levels-below (levels s) (features s) ranges p.proper in
      call-rest s [] (lengths_question (cells ∷ []) (cells_wanted s)) (program_arguments s row (rule_levels (levels s) ranges)) at.taken
      (equal-alongside (cells ∷ []) (cells_wanted s) (λ i. at.cells i ∷ []))
      ∙ program-fits s row (rule_levels (levels s) ranges) (record { sized = sized ∙ at.even; place = at.place; below = rw at.even at below })

-- ---- route

-- by the numbers of cells, lines and belts
pub record RouteTaken (s : Shape) (cell_number line_number belt_number : ℕ) (values : List ℕ) : Type 0 where
  pub taken : Taken s
  pub even : features s + features s ≡ s.width
  pub cells : cell_number ≡ cell_count s
  pub lines : line_number ≡ s.rows
  pub belts : belt_number ≡ s.rows
  pub bottle : Bottle (levels s) (features s) values

module _ (s : Shape) (cells lines belts : ℕ) (values : List ℕ) where
  pub route-taken : first_no (route_questions s cells lines belts values) ≡ 0 → RouteTaken s cells lines belts values
  route-taken none =
      let wanted = array_wanted s ++ s.rows ∷ [] in
      let p =
      call-passed s (features_question s ∷ []) (lengths_question (cells ∷ lines ∷ belts ∷ []) wanted) (route_arguments s values) refl (lit< tt) none in
      let lent = length-lent (cells ∷ lines ∷ belts ∷ []) wanted p.lent in
      let six = first-yes (lengths_question (length values ∷ []) (features s ∷ [])).holds _ 6 (lit< tt) p.arguments in
      let count = length-lent (length values ∷ []) (features s ∷ []) six.0 0 in
      let eight = first-yes (every (λ v. ltb v (levels s)) values) 0 8 (lit< tt) six.1 in
      record {
        taken = p.taken;
        even = even-width s p.numbers;
        cells = lent 0;
        lines = lent 1;
        belts = lent 2;
        bottle = record { count = count; below = below-given (levels s) (features s) values count eight.0 };
      }

  pub route-fits : RouteTaken s cells lines belts values → first_no (route_questions s cells lines belts values) ≡ 0
  route-fits p =
      let wanted = array_wanted s ++ s.rows ∷ [] in
      call-rest s (features_question s ∷ []) (lengths_question (cells ∷ lines ∷ belts ∷ []) wanted) (route_arguments s values) p.taken
      (equal-alongside (cells ∷ lines ∷ belts ∷ []) wanted (λ i. p.cells i ∷ p.lines i ∷ p.belts i ∷ []))
      ∙ simp (
        width-even s p.even,
        equal-alongside (length values ∷ []) (features s ∷ []) (λ i. p.bottle.count i ∷ []),
        every-passes (λ v. ltb v (levels s)) values 0 (λ j h. lt-ltb _ _ (p.bottle.below j (omega (arith, p.bottle.count)))),
      )

  -- the first match of a bottle's inputs is taken
  pub route-asks : RouteTaken s cells lines belts values → first_no (array_questions s cells lines (first_arguments s (bottle_inputs (levels s) values))) ≡ 0
  route-asks p =
      let inputs = bottle_inputs (levels s) values in
      let sized = inputs-sized (levels s) (features s) values p.bottle ∙ p.even in
      let below = inputs-below (levels s) (features s) values p.bottle in
      call-rest s [] (lengths_question (cells ∷ lines ∷ []) (array_wanted s)) (first_arguments s inputs) p.taken
      (equal-alongside (cells ∷ lines ∷ []) (array_wanted s) (λ i. p.cells i ∷ p.lines i ∷ []))
      ∙ simp (
        equal-alongside (length inputs ∷ []) (s.width ∷ []) (λ i. sized i ∷ []),
        every-passes (λ v. leb v (levels s)) inputs 0 (λ j h. le-leb (get_or inputs j 0) (levels s) (omega (arith, below j (omega (arith, sized, p.even))))),
      )
