-- Document 02, Card 6: the router's questions, in their order. Each call asks 1 to 5, then 18, then 6 on what it is lent of the array and on the belts, by
-- their numbers, and then those on its arguments, 6 on the buffers among them first.
use Rattle.std.specs.Prelude.{List, [], ◌∷◌, ◌++◌, ℕ, ◌%◌, eqb, leb, length}
use Rattle.parity.specs.Lists.{alongside}
use Rattle.parity.specs.Shape.{levels}
use Rattle.parity.specs.Questions.{Question, question, call_questions, lengths_question, place_question, levels_question}
use Rattle.parity.specs.declared.Shape.{Shape}
use Rattle.array_memory.specs.Lengths.{cells_wanted, array_wanted}
use Rattle.router_ranges.specs.Ranges.{Ranges, features}

-- 18: is k even, two columns to a feature?
abbrev pub features_question : Shape → Question
features_question s = question 18 (eqb (s.width % 2) 0)

-- 19: is no low above its high?
abbrev pub ranges_question : Ranges → Question
ranges_question ranges = question 19 (alongside leb ranges.lows ranges.highs)

abbrev pub router_questions : Shape → List ℕ → List ℕ → List Question → List Question
router_questions s lent wanted arguments = call_questions s (features_question s ∷ []) (lengths_question lent wanted) arguments

-- ---- rule at: 6 on cells and belts, and on the buffers for lows and highs, by their numbers; 7 on the row

abbrev pub rule_at_arguments : Shape → ℕ → ℕ → ℕ → List Question
rule_at_arguments s row lows highs = lengths_question (lows ∷ highs ∷ []) (features s ∷ features s ∷ []) ∷ place_question row s.rows ∷ []

abbrev pub rule_at_questions : Shape → ℕ → ℕ → ℕ → ℕ → ℕ → List Question
rule_at_questions s cells belts row lows highs =
    router_questions s (cells ∷ belts ∷ []) (cells_wanted s ++ s.rows ∷ []) (rule_at_arguments s row lows highs)

-- ---- rule: the same on the lows and highs that are given, 8 on all of them, and then 19

abbrev pub given_questions : Shape → Ranges → List Question
given_questions s ranges = levels_question (levels s) ranges.lows ∷ levels_question (levels s) ranges.highs ∷ ranges_question ranges ∷ []

abbrev pub rule_arguments : Shape → ℕ → Ranges → List Question
rule_arguments s row ranges = rule_at_arguments s row (length ranges.lows) (length ranges.highs) ++ given_questions s ranges

abbrev pub rule_questions : Shape → ℕ → ℕ → ℕ → Ranges → List Question
rule_questions s cells belts row ranges = router_questions s (cells ∷ belts ∷ []) (cells_wanted s ++ s.rows ∷ []) (rule_arguments s row ranges)

-- ---- route: 6 on cells, lines and belts, and on the values; 8 on each of these

abbrev pub route_arguments : Shape → List ℕ → List Question
route_arguments s values = lengths_question (length values ∷ []) (features s ∷ []) ∷ levels_question (levels s) values ∷ []

abbrev pub route_questions : Shape → ℕ → ℕ → ℕ → List ℕ → List Question
route_questions s cells lines belts values = router_questions s (cells ∷ lines ∷ belts ∷ []) (array_wanted s ++ s.rows ∷ []) (route_arguments s values)
