-- Document 02, Card 6, over whole lists: what a list of the router is for the array, and what a route tells of the rules; the proofs are in proofs/.
use Rattle.std.specs.Prelude.{◌≡◌, ◌↔◌, ◌≢◌, Bool, false, List, [], ℕ, suc, ◌-◌, ◌%◌, ◌<◌, length, get_or, replicate}
use Rattle.parity.specs.Lists.{first_from}
use Rattle.parity.specs.Shape.{levels}
use Rattle.parity.specs.Questions.{Taken}
use Rattle.parity.specs.declared.Shape.{Shape}
use Rattle.shape.specs.Answers.{Said, Found, row, none, row_or_none, Result, accepted, giving}
use Rattle.call_lists.specs.Run.{run}
use Rattle.detection.specs.Log.{log}
use Rattle.detection.specs.Claims.{Detects}
use Rattle.router_ranges.specs.Ranges.{features, Ranges, ranges_of, Rule, holds}
use Rattle.router_ranges.specs.Claims.{Bottle}
use Rattle.router.specs.Calls.{rule_at_call}
use Rattle.router.specs.Routes.{Destination, to, nowhere, route_call}
use Rattle.router_lists.specs.Run.{RouterCall, run_router}
use Rattle.router_lists.specs.Log.{Written, cleared, ruled, other, router_log, lowered}

-- ---- a list of the router, for the array

-- State and log of the array are those of the list in which each rule is the programming of its levels; so demand 3's claim, and every other on lists of
-- calls, holds of it. The belts are the log's: a rule's own alone is changed by it, and by no other call.
pub record Lowered (s : Shape) (first : List ℕ) (calls : List RouterCall) : Type 0 where
  pub state : (run_router s first calls).array ≡ run s (lowered s calls)
  pub logged : (router_log s first calls).array ≡ log s (lowered s calls)
  pub detects : Detects s (lowered s calls)
  pub belts : (run_router s first calls).belts ≡ (router_log s first calls).belts

-- Every shape taken, any m belts at first, every list.
abbrev pub LoweredClaim : Type 0
LoweredClaim = (s : Shape) → Taken s → (belts : List ℕ) → length belts ≡ s.rows → (calls : List RouterCall) → Lowered s belts calls

-- ---- what a route tells

-- whether what a row was last written with is a rule that holds the bottle; a cleared row holds no rule
abbrev pub rule_holds : List ℕ → Written → Bool
rule_holds values cleared = false
rule_holds values (ruled r) = holds r.ranges values
rule_holds values other = false

-- where the rule of row i sends the bottles that it holds
abbrev pub sends : ℕ → Written → Destination
sends i cleared = nowhere
sends i (ruled r) = to i r.belt
sends i other = nowhere

module _ (s : Shape) (belts : List ℕ) (calls : List RouterCall) where
  -- what row i was last written with
  abbrev pub written_at : ℕ → Written
  written_at i = get_or (router_log s belts calls).rules i other

  -- row i was last written as a rule, or cleared, and stands so; by value: a cell that has changed and is what it was has not changed
  pub record Stands (i : ℕ) : Type 0 where
    pub known : written_at i ≢ other
    pub same : get_or (router_log s belts calls).array.rows.standing i [] ≡ get_or (router_log s belts calls).array.rows.written i []

  -- .. and its line is sound
  pub record Trusted (i : ℕ) : Type 0 where
    pub stands : Stands i
    pub line : get_or (router_log s belts calls).array.rows.lines i 0 ≡ 0

  -- where the rule of the row that is found sends a bottle
  abbrev pub to_first : Found → Destination
  to_first (row i) = sends i (written_at i)
  to_first none = nowhere

  -- the first row whose rule holds the bottle, with that rule's belt, or none
  abbrev pub first_rule : List ℕ → Destination
  first_rule values = to_first (row_or_none s.rows (first_from (λ i. rule_holds values (written_at i)) s.rows 0))

  -- a route after the list
  abbrev pub routed : List ℕ → Said Destination
  routed values = route_call s (run_router s belts calls).array.memory (run_router s belts calls).belts values

  -- It is taken and answers the first row whose rule holds every value in its range, with that rule's belt; and none exactly where no rule does.
  pub record Routes (values : List ℕ) : Type 0 where
    pub answer : routed values ≡ accepted (first_rule values)
    pub missed : ((routed values).value ≡ nowhere) ↔ ((i : ℕ) → i < s.rows → rule_holds values (written_at i) ≡ false)

-- the rows up to the answer: all m of them, where it is none
abbrev pub reached : ℕ → Destination → ℕ
reached m (to i belt) = suc i
reached m nowhere = m

-- Every shape taken with even k, any m belts at first, every list, every bottle of f values below q: where the rows up to the answer stand as they were
-- written, as rules or cleared, and have sound lines, the route is that of the rules.
abbrev pub RouteClaim : Type 0
RouteClaim =
    (s : Shape) → Taken s → s.width % 2 ≡ 0 → (belts : List ℕ) → length belts ≡ s.rows → (calls : List RouterCall)
    → (values : List ℕ) → Bottle (levels s) (features s) values
    → ((i : ℕ) → i < reached s.rows (routed s belts calls values).value → Trusted s belts calls i) → Routes s belts calls values

-- The card's own sentence: for rows unchanged since they were programmed as rules or cleared, and lines sound.
abbrev pub CardClaim : Type 0
CardClaim =
    (s : Shape) → Taken s → s.width % 2 ≡ 0 → (belts : List ℕ) → length belts ≡ s.rows → (calls : List RouterCall)
    → ((i : ℕ) → i < s.rows → Trusted s belts calls i)
    → (values : List ℕ) → Bottle (levels s) (features s) values → Routes s belts calls values

-- ---- what is read back

-- buffers of f bytes each
pub record Out (s : Shape) (out : Ranges) : Type 0 where
  pub lows : length out.lows ≡ features s
  pub highs : length out.highs ≡ features s

module _ (s : Shape) (belts : List ℕ) (calls : List RouterCall) where
  -- a rule read back after the list
  abbrev pub read_at : ℕ → Ranges → Result Ranges
  read_at i out = rule_at_call s (run_router s belts calls).array.memory (run_router s belts calls).belts i out

  -- From a row that stands as it was written a rule is read back as that rule, whatever its line; from a cleared one the lows are all q − 1 and the highs
  -- all 0, with the belt that stands there.
  pub record ReadsBack (i : ℕ) (out : Ranges) : Type 0 where
    pub rule : (r : Rule) → written_at s belts calls i ≡ ruled r → read_at i out ≡ giving (accepted r.belt) [] r.ranges
    pub blank :
        written_at s belts calls i ≡ cleared
        → read_at i out
        ≡ giving (accepted (get_or (router_log s belts calls).belts i 0)) []
        (ranges_of (replicate (features s) (levels s - 1)) (replicate (features s) 0))

abbrev pub ReadBackClaim : Type 0
ReadBackClaim =
    (s : Shape) → Taken s → s.width % 2 ≡ 0 → (belts : List ℕ) → length belts ≡ s.rows → (calls : List RouterCall)
    → (i : ℕ) → i < s.rows → Stands s belts calls i → (out : Ranges) → Out s out → ReadsBack s belts calls i out
