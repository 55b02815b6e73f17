-- Document 02, Card 6: the route of a bottle, as one definition, taken or refused, by what first match gives.
use Rattle.std.specs.Prelude.{List, ℕ, length, get_or}
use Rattle.parity.specs.Shape.{levels}
use Rattle.parity.specs.Questions.{first_no}
use Rattle.parity.specs.declared.Shape.{Shape}
use Rattle.shape.specs.Answers.{Said, Found, row, none, answering}
use Rattle.array_memory.specs.Memory.{Memory}
use Rattle.array_lookup.specs.Lookups.{first_call}
use Rattle.router_ranges.specs.Ranges.{bottle_inputs}
use Rattle.router_questions.specs.Questions.{route_questions}

-- a row and its belt, or none
pub data Destination : Type 0 where
  to : ℕ → ℕ → Destination
  nowhere : Destination

abbrev pub destination : List ℕ → Found → Destination
destination belts (row i) = to i (get_or belts i 0)
destination belts none = nowhere

-- first match's row for the bottle's inputs, with the belt byte that stands there
unfoldable pub route_call : Shape → Memory → List ℕ → List ℕ → Said Destination
route_call s mem belts values =
    answering nowhere (first_no (route_questions s (length mem.cells) (length mem.lines) (length belts) values))
    (destination belts (first_call s mem (bottle_inputs (levels s) values)).value)
