-- The claims are not empty: what rules, routes and readings give at a small shape (ρ 2, b 3, τ 1, k 4, m 3: q is 8, f is 2 and n is 5), computed.
use Rattle.std.specs.Prelude.{◌≡◌, List, [], ◌∷◌, ◌++◌, map, ℕ}
use Rattle.parity.specs.declared.Shape.{Shape}
use Rattle.shape.specs.Answers.{accepted, refused, giving}
use Rattle.call_lists.specs.Run.{clear, program, drift, line}
use Rattle.router_ranges.specs.Ranges.{ranges_of, Rule, rule_of}
use Rattle.router.specs.Routes.{to, nowhere}
use Rattle.router_lists.specs.Run.{RouterCall, plain, rule, router_call_of, run_router}
use Rattle.router_lists.specs.Log.{cleared, ruled, other, router_log}
use Rattle.router_lists.specs.Claims.{routed, read_at}

abbrev pub small : Shape
small = record { radix = 2; digits = 3; errors = 1; width = 4; rows = 3 }

-- the same with an odd k
abbrev pub odd : Shape
odd = record { radix = 2; digits = 3; errors = 1; width = 3; rows = 3 }

-- the values from 2 to 5 and from 0 to 3; and all values
abbrev pub narrow : Rule
narrow = rule_of (2 ∷ 0 ∷ []) (5 ∷ 3 ∷ []) 7

abbrev pub broad : Rule
broad = rule_of (0 ∷ 0 ∷ []) (7 ∷ 7 ∷ []) 9

-- the belts at first, and a rule book in rows 0 and 1
abbrev pub unset : List ℕ
unset = 1 ∷ 2 ∷ 3 ∷ []

unfoldable pub book : List RouterCall
book = rule 0 narrow ∷ rule 1 broad ∷ []

-- The cells, each row with its check cell, and the belts; row 2 stands as it was.
abbrev pub BookExampleClaim : Type 0
BookExampleClaim =
    ((run_router small unset book).array.memory.cells ≡ 5 ∷ 5 ∷ 3 ∷ 7 ∷ 4 ∷ 7 ∷ 7 ∷ 7 ∷ 7 ∷ 0 ∷ 0 ∷ 0 ∷ 0 ∷ 0 ∷ 0 ∷ [])
    × ((run_router small unset book).belts ≡ 7 ∷ 9 ∷ 3 ∷ [])

-- ---- routes

-- Inside the narrow rule, at its low ends and at its high ends; a value above its range, and one below; then a value of q, and one value too few.
unfoldable pub bottles : List (List ℕ)
bottles = (2 ∷ 3 ∷ []) ∷ (2 ∷ 0 ∷ []) ∷ (5 ∷ 3 ∷ []) ∷ (6 ∷ 3 ∷ []) ∷ (1 ∷ 0 ∷ []) ∷ (8 ∷ 0 ∷ []) ∷ (2 ∷ []) ∷ []

abbrev pub RoutesExampleClaim : Type 0
RoutesExampleClaim =
    map (routed small unset book) bottles
    ≡ accepted (to 0 7)
    ∷ accepted (to 0 7)
    ∷ accepted (to 0 7)
    ∷ accepted (to 1 9)
    ∷ accepted (to 1 9)
    ∷ refused nowhere 8
    ∷ refused nowhere 6
    ∷ []

-- The bottle 2 3 after other lists: none; the book; a cell that drifts away, and away and back; a dead line; a shorted line, whose row takes the bottle
-- though its cell has drifted away; row 0 programmed without a rule, which sends the bottle to the belt that stands there; and a clear after the book. And
-- the bottle of zeros in the fresh array.
unfoldable pub histories : List (List RouterCall)
histories =
    []
    ∷ book
    ∷ (book ++ plain (drift 0 0 1) ∷ [])
    ∷ (book ++ plain (drift 0 0 1) ∷ plain (drift 0 0 5) ∷ [])
    ∷ (book ++ plain (line 0 1) ∷ [])
    ∷ (book ++ plain (drift 0 0 1) ∷ plain (line 0 2) ∷ [])
    ∷ (book ++ plain (program 0 (7 ∷ 7 ∷ 7 ∷ 7 ∷ [])) ∷ [])
    ∷ (book ++ plain clear ∷ [])
    ∷ []

abbrev pub HistoriesExampleClaim : Type 0
HistoriesExampleClaim =
    (map (λ calls. routed small unset calls (2 ∷ 3 ∷ [])) histories
    ≡ accepted nowhere
    ∷ accepted (to 0 7)
    ∷ accepted (to 1 9)
    ∷ accepted (to 0 7)
    ∷ accepted (to 1 9)
    ∷ accepted (to 0 7)
    ∷ accepted (to 0 7)
    ∷ accepted nowhere
    ∷ [])
    × (routed small unset [] (0 ∷ 0 ∷ []) ≡ accepted nowhere)

-- ---- refusals

-- A low above its high; a high of q; that and a low above its high; a row too many; a low too few; and no fault.
unfoldable pub rule_calls : List RouterCall
rule_calls =
    rule 2 (rule_of (3 ∷ 0 ∷ []) (2 ∷ 7 ∷ []) 5)
    ∷ rule 2 (rule_of (0 ∷ 0 ∷ []) (7 ∷ 8 ∷ []) 5)
    ∷ rule 2 (rule_of (3 ∷ 0 ∷ []) (2 ∷ 8 ∷ []) 5)
    ∷ rule 3 broad
    ∷ rule 2 (rule_of (0 ∷ []) (7 ∷ 7 ∷ []) 5)
    ∷ rule 2 broad
    ∷ []

-- The numbers, with an odd k too, where the lengths are wrong besides; and the belts after a refused rule.
abbrev pub RefusedExampleClaim : Type 0
RefusedExampleClaim =
    (map (λ c. (router_call_of small (run_router small unset book) c).said.number) rule_calls ≡ 19 ∷ 8 ∷ 8 ∷ 7 ∷ 6 ∷ 0 ∷ [])
    × ((router_call_of odd (run_router odd unset []) (rule 0 broad)).said ≡ refused 0 18)
    × (routed odd unset [] (2 ∷ 3 ∷ []) ≡ refused nowhere 18)
    × ((run_router small unset (book ++ rule 2 (rule_of (3 ∷ 0 ∷ []) (2 ∷ 7 ∷ []) 5) ∷ [])).belts ≡ 7 ∷ 9 ∷ 3 ∷ [])

-- ---- what is read back, and what the log holds

-- Row 0 is read back as its rule; the cleared row 2 as ranges from 7 to 0, which hold nothing, with the belt that stands there.
abbrev pub ReadExampleClaim : Type 0
ReadExampleClaim =
    (read_at small unset book 0 (ranges_of (0 ∷ 0 ∷ []) (0 ∷ 0 ∷ [])) ≡ giving (accepted 7) [] narrow.ranges)
    × (read_at small unset book 2 (ranges_of (0 ∷ 0 ∷ []) (0 ∷ 0 ∷ [])) ≡ giving (accepted 3) [] (ranges_of (7 ∷ 7 ∷ []) (0 ∷ 0 ∷ [])))

-- Row 1 is programmed over its rule, with the rule's own levels: it is no rule any more. Row 2 is still cleared after a refused rule.
abbrev pub LogExampleClaim : Type 0
LogExampleClaim =
    (router_log small unset (book ++ plain (program 1 (7 ∷ 7 ∷ 7 ∷ 7 ∷ [])) ∷ rule 2 (rule_of (3 ∷ 0 ∷ []) (2 ∷ 7 ∷ []) 5) ∷ [])).rules
    ≡ ruled narrow ∷ other ∷ cleared ∷ []
