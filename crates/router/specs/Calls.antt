-- Document 02, Card 6: the router's state; rule and rule at, each as one definition, taken or refused, by what the calls of the array give.
use Rattle.std.specs.Prelude.{List, [], ℕ, length, get_or, set}
use Rattle.parity.specs.Shape.{levels, columns}
use Rattle.parity.specs.declared.Shape.{Shape}
use Rattle.shape.specs.Answers.{Result, accepted, giving, calling}
use Rattle.array_memory.specs.Geometry.{row_at}
use Rattle.array_memory.specs.Memory.{Memory}
use Rattle.cycle.specs.Calls.{State, program_call}
use Rattle.router_ranges.specs.Ranges.{features, Ranges, Rule, rule_levels, ranges_in}
use Rattle.router_questions.specs.Questions.{rule_questions, rule_at_questions}

-- the array's state, and the belts, m bytes of the router's own
pub record Router : Type 0 where
  pub array : State
  pub belts : List ℕ

abbrev pub router_of : State → List ℕ → Router
router_of array belts = record { array = array; belts = belts }

-- what a call on the array gives, beside the belts
abbrev pub with_belts : List ℕ → Result State → Result Router
with_belts belts r = giving r.said r.bytes (router_of r.state belts)

-- ---- rule

-- all that programming the rule's levels does, record included, and the row's belt byte becomes the rule's
unfoldable pub rule_call : Shape → Router → ℕ → Rule → Result Router
rule_call s st row rule =
    calling (rule_questions s (length st.array.memory.cells) (length st.belts) row rule.ranges) [] st
    (with_belts (set st.belts row rule.belt) (program_call s st.array row (rule_levels (levels s) rule.ranges)))

-- ---- rule at

-- the buffers for the ranges become those that stand in the row, and the answer is the row's belt; the array and the belts are lent to be read
unfoldable pub rule_at_call : Shape → Memory → List ℕ → ℕ → Ranges → Result Ranges
rule_at_call s mem belts row out =
    calling (rule_at_questions s (length mem.cells) (length belts) row (length out.lows) (length out.highs)) [] out
    (giving (accepted (get_or belts row 0)) [] (ranges_in (levels s) (features s) (row_at (columns s) mem.cells row)))
