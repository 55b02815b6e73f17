-- A route after a list of the router tells the first rule that holds the bottle. Assumes nothing.
use mathlib.Core.Path.{◌≡◌, refl, sym, ap, ◌∙◌}
use mathlib.Core.Logic.{◌↔◌, ◌≢◌}
use mathlib.Core.Bool.{Bool, true, false, cond, true≢false}
use mathlib.Core.List.{List}
use Prim.Native.Nat.{ℕ, ◌+◌, ◌%◌, ◌≤◌, ◌<◌}
use native.Mathlib.Omega.{arith}
use lib.Dec.{eqb, ltb}
use lib.ListN.{length, get_or}
use borrow.Author.Tests.{ltb-true, ltb-false}
use Rattle.parity.specs.Lists.{first_from}
use Rattle.parity.specs.Match.{task_vector}
use Rattle.parity.specs.Shape.{levels, columns}
use Rattle.parity.specs.Questions.{Taken}
use Rattle.parity.proofs.Redundancy.{first_passes}
use Rattle.parity.specs.declared.Shape.{Shape}
use Rattle.shape.specs.Answers.{row, none, row_or_none, accepted, answering}
use Rattle.array_memory.specs.Geometry.{row_match}
use Rattle.array_lookup.specs.Lookups.{first_call}
use Rattle.detection.proofs.Agreement.{sized}
use Rattle.router_ranges.specs.Ranges.{features, bottle_inputs}
use Rattle.router_ranges.specs.Claims.{Bottle}
use Rattle.router.specs.Calls.{Router}
use Rattle.router.specs.Routes.{Destination, to, nowhere, destination, route_call}
use Rattle.router_questions.proofs.Asked.{RouteTaken, route-fits, route-asks}
use Rattle.router_lists.specs.Run.{RouterCall, run_router}
use Rattle.router_lists.specs.Log.{Written, cleared, ruled, other, RouterLog, router_log}
use Rattle.router_lists.specs.Claims.{rule_holds, sends, written_at, Trusted, to_first, first_rule, routed, Routes, reached, RouteClaim, CardClaim}
use Rattle.router_lists.proofs.Fits.{Row, Fits, fits}
use Rattle.router_lists.proofs.Searches.{passed_over, found-same}
use Rattle.router_lists.proofs.Matching.{trusted-match}

-- an even k is two columns to a feature
pub halves : (s : Shape) → s.width % 2 ≡ 0 → features s + features s ≡ s.width
unfolding features
halves s e = omega arith

-- a rule that holds something sends it to its row, with the belt that stands there
held-sends :
    (s : Shape) (values : List ℕ) (w : Written) (cells : List ℕ) (belt i : ℕ) → Row s w cells belt → rule_holds values w ≡ true → to i belt ≡ sends i w
held-sends s values cleared cells belt i wrote e = absurd (true≢false (sym e))
held-sends s values (ruled r) cells belt i wrote e = ap (to i) wrote.belt
held-sends s values other cells belt i wrote e = absurd (true≢false (sym e))

-- a row up to what was found is one up to the answer
within-reach : (m found : ℕ) (belts : List ℕ) (j : ℕ) → j < m → j ≤ found → j < reached m (destination belts (row_or_none m found))
within-reach m found belts j h k = go (ltb found m) refl
  where
    go : (b : Bool) → ltb found m ≡ b → j < reached m (destination belts (cond b (row found) none))
    go true e = omega arith
    go false e = h

-- somewhere is not nowhere
somewhere : Destination → Bool
somewhere (to i belt) = true
somewhere nowhere = false

to≢nowhere : (i belt : ℕ) → to i belt ≢ nowhere
unfolding somewhere
to≢nowhere i belt e = true≢false (ap somewhere e)

module _ (s : Shape) (t : Taken s) (even : s.width % 2 ≡ 0) (first : List ℕ) (count : length first ≡ s.rows) (calls : List RouterCall) where
  abbrev st : Router
  st = run_router s first calls

  abbrev l : RouterLog
  l = router_log s first calls

  module _ (values : List ℕ) (bottle : Bottle (levels s) (features s) values) where
    abbrev matches : ℕ → Bool
    matches i =
        eqb (row_match (levels s) (columns s) (task_vector s (bottle_inputs (levels s) values)) st.array.memory.cells st.array.memory.lines i) 1

    abbrev holding : ℕ → Bool
    holding i = rule_holds values (written_at s first calls i)

    abbrev found : ℕ
    found = first_from matches s.rows 0

    taken : RouteTaken s (length st.array.memory.cells) (length st.array.memory.lines) (length st.belts) values
    taken =
        let p : Fits s st l = fits s t first count calls in
        record {
          taken = t;
          even = halves s even;
          cells = (sized s _ _ p.array).cells;
          lines = (sized s _ _ p.array).lines;
          belts = ap length p.belts ∙ p.rows.belt_count;
          bottle = bottle;
        }

    -- first match's row, with the belt that stands there
    told : routed s first calls values ≡ accepted (destination st.belts (row_or_none s.rows found))
    unfolding route_call first_call
    told =
        ap (λ n. answering nowhere n (destination st.belts (first_call s st.array.memory (bottle_inputs (levels s) values)).value))
        (route-fits s _ _ _ values taken)
        ∙ ap (λ n. accepted (destination st.belts (answering none n (row_or_none s.rows found)).value)) (route-asks s _ _ _ values taken)

    -- the first rule's row is found ..
    same_row : ((i : ℕ) → i < reached s.rows (routed s first calls values).value → Trusted s first calls i) → found ≡ first_from holding s.rows 0
    same_row trusted =
        found-same matches holding s.rows 0
        (λ j low high h.
        let safe = trusted j (rw told (within-reach s.rows found st.belts j (omega arith) h)) in
        trusted-match s t (halves s even) values bottle st l (fits s t first count calls) j (omega arith) safe.stands.known
        safe.stands.same safe.line)

    -- .. and its belt
    same-belt : let it = row_or_none s.rows (first_from holding s.rows 0) in destination st.belts it ≡ to_first s first calls it
    same-belt = go (ltb (first_from holding s.rows 0) s.rows) refl
      where
        at : ℕ
        at = first_from holding s.rows 0

        go : (b : Bool) → ltb at s.rows ≡ b → destination st.belts (cond b (row at) none) ≡ to_first s first calls (cond b (row at) none)
        go true e =
            let p : Fits s st l = fits s t first count calls in
            let below : at < s.rows = ltb-true at s.rows e in
            ap (λ bytes. to at (get_or bytes at 0)) p.belts
            ∙ held-sends s values (written_at s first calls at) _ _ at (p.rows.row at below) (first_passes holding s.rows 0 (omega arith))
        go false e = refl

    -- none exactly where no rule holds the bottle
    none-holds : (first_rule s first calls values ≡ nowhere) ↔ ((i : ℕ) → i < s.rows → holding i ≡ false)
    none-holds = go (ltb at s.rows) refl
      where
        at : ℕ
        at = first_from holding s.rows 0

        go : (b : Bool) → ltb at s.rows ≡ b → (to_first s first calls (cond b (row at) none) ≡ nowhere) ↔ ((i : ℕ) → i < s.rows → holding i ≡ false)
        go true e =
            let below : at < s.rows = ltb-true at s.rows e in
            let held : holding at ≡ true = first_passes holding s.rows 0 (omega arith) in (
              λ never.
                  absurd
                  (to≢nowhere at _
                  (held-sends s values (written_at s first calls at) _ _ at ((fits s t first count calls).rows.row at below) held ∙ never)),
              λ fail. absurd (true≢false (sym held ∙ fail at below)),
            )
        go false e =
            let past : s.rows ≤ at = ltb-false at s.rows e in (
              λ end i h. passed_over holding s.rows 0 i (omega arith) (omega arith) (omega arith),
              λ fail. refl,
            )

    routes : ((i : ℕ) → i < reached s.rows (routed s first calls values).value → Trusted s first calls i) → Routes s first calls values
    routes trusted =
        let answer : routed s first calls values ≡ accepted (first_rule s first calls values) =
        told ∙ ap (λ i. accepted (destination st.belts (row_or_none s.rows i))) (same_row trusted) ∙ ap accepted same-belt
        in
        record { answer = answer; missed = rw answer none-holds }

    -- what is found is a row of the array
    reached-rows : reached s.rows (routed s first calls values).value ≤ s.rows
    reached-rows = rw told (go (ltb found s.rows) refl)
      where
        go : (b : Bool) → ltb found s.rows ≡ b → reached s.rows (destination st.belts (cond b (row found) none)) ≤ s.rows
        go true e = ltb-true found s.rows e
        go false e = omega arith

pub route_claim : RouteClaim
route_claim s t even first count calls values bottle trusted = routes s t even first count calls values bottle trusted

pub card_claim : CardClaim
card_claim s t even first count calls trusted values bottle =
    routes s t even first count calls values bottle (λ i h. trusted i (omega (arith, reached-rows s t even first count calls values bottle)))
