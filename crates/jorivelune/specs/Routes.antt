-- What the router's calls for C are stated by: a router whose record lies in words, and what a route tells as two numbers.
use Rattle.std.specs.Prelude.{cond, List, ℕ}
use Rattle.shape.specs.Answers.{Said, Result, giving}
use Rattle.array_memory.specs.Memory.{Memory}
use Rattle.cycle.specs.Calls.{state_of}
use Rattle.record_words.specs.Words.{cycle_of, words_after}
use Rattle.router.specs.Calls.{Router, router_of}
use Rattle.router.specs.Routes.{Destination, to, nowhere}

-- ---- rule

-- the lent state of a router whose record lies in words
pub record StoredRouter : Type 0 where
  pub memory : Memory
  pub words : List ℕ
  pub belts : List ℕ

abbrev pub stored_router : Memory → List ℕ → List ℕ → StoredRouter
stored_router memory words belts = record { memory = memory; words = words; belts = belts }

-- all that a call gives, with its record stored in the words given
abbrev pub storing_router : Result Router → List ℕ → Result StoredRouter
storing_router r words =
    let array = r.state.array in
    giving r.said r.bytes (stored_router array.memory (words_after r.said array.cycle words) r.state.belts)

-- a call on a memory, a record in words, and belts: the record is read from the words and stored in them
abbrev pub on_router : (Router → Result Router) → Memory → List ℕ → List ℕ → Result StoredRouter
on_router call mem words belts = storing_router (call (router_of (state_of mem (cycle_of words)) belts)) words

-- ---- route

-- its two numbers: the row and the belt
pub record Sent : Type 0 where
  pub row : ℕ
  pub belt : ℕ

abbrev pub sent : ℕ → ℕ → Sent
sent row belt = record { row = row; belt = belt }

-- where a bottle goes among m rows: m and 0 for none
abbrev pub sent_to : ℕ → Destination → Sent
sent_to m (to i belt) = sent i belt
sent_to m nowhere = sent m 0

-- what a route among m rows says, as two numbers: both are 0 where it is refused
abbrev pub sent_says : ℕ → Said Destination → Said Sent
sent_says m said = record { taken = said.taken; number = said.number; value = cond said.taken (sent_to m said.value) (sent 0 0) }
