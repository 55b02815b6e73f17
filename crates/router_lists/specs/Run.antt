-- Document 02, Card 6: lists of the router. Its calls are those of demand 3 and rule; a list of them is run from the fresh array, with any belts, by the
-- calls' own definitions.
use Rattle.std.specs.Prelude.{List, ℕ}
use Rattle.parity.specs.Lists.{followed}
use Rattle.parity.specs.declared.Shape.{Shape}
use Rattle.shape.specs.Answers.{Result}
use Rattle.cycle.specs.Calls.{fresh}
use Rattle.call_lists.specs.Run.{Call, call_of}
use Rattle.router_ranges.specs.Ranges.{Rule}
use Rattle.router.specs.Calls.{Router, router_of, with_belts, rule_call}

pub data RouterCall : Type 0 where
  -- a call of demand 3, on the array
  plain : Call → RouterCall
  -- a row's number, and a rule
  rule : ℕ → Rule → RouterCall

-- all that a call gives, by its own definition; those on the array leave the belts, which they are not lent
abbrev pub router_call_of : Shape → Router → RouterCall → Result Router
router_call_of s st (plain c) = with_belts st.belts (call_of s st.array c)
router_call_of s st (rule row r) = rule_call s st row r

-- the state that it leaves
abbrev pub router_after : Shape → Router → RouterCall → Router
router_after s st c = (router_call_of s st c).state

-- the state after a list of calls
unfoldable pub run_router : Shape → List ℕ → List RouterCall → Router
run_router s belts calls = followed (router_after s) (router_of (fresh s) belts) calls
