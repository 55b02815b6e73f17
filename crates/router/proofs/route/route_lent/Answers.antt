-- `router::route::route_lent` meets its contract: the bottle's inputs are made in an array, and `first_below` is lent that part of it. Assumes nothing.
use mathlib.Core.Path.{◌≡◌, refl, sym, ◌∙◌, ap, ap₂, subst}
use mathlib.Core.Bool.{Bool, true, false, cond}
use mathlib.Core.List.{List, ◌++◌}
use Prim.Native.Nat.{ℕ, zero, suc, ◌-◌, ◌<◌}
use native.Mathlib.Omega.{arith}
use lib.Dec.{eqb, ltb}
use lib.ListN.{length, get_or, take, drop}
use borrow.Author.Tests.{ltb-true}
use Rattle.parity.specs.Lists.{first_from}
use Rattle.parity.specs.Match.{task_vector}
use Rattle.parity.specs.Shape.{levels, columns}
use Rattle.parity.specs.Questions.{first_no}
use Rattle.parity.specs.declared.Shape.{Shape}
use Rattle.parity.proofs.Comparator.{reaches}
use Rattle.std.specs.declared.option.Option.{Option}
use Rattle.std.specs.declared.option.Option.TheVariants.{Some, None}
use Rattle.shape.specs.Answers.{Found, row, none, row_or_none, accepted, answering, found_of}
use Rattle.shape.specs.Bounds.{Within}
use Rattle.shape.specs.Shapes.{Passed}
use Rattle.shape.specs.declared.sizes.Sizes.{Sizes}
use Rattle.array_memory.specs.Geometry.{row_match}
use Rattle.array_memory.specs.Memory.{Memory, with_array, no_memory}
use Rattle.array_lookup.specs.Lookups.{array_questions, first_arguments, first_call}
use Rattle.array_lookup.proofs.Front.{blank, Holds, front_fits, front-sized}
use Rattle.router_ranges.specs.Ranges.{features, paired, bottle_inputs}
use Rattle.router_ranges.proofs.Ranges.{inputs-reach}
use Rattle.router_questions.specs.Questions.{route_questions}
use Rattle.router_questions.proofs.Asked.{RouteTaken, route-taken, route-asks}
use Rattle.router.specs.Routes.{nowhere, destination, route_call}
use Rattle.router.specs.Answers.{sent_to}
use Rattle.router.specs.declared.route.Sent.{Sent}
use Rattle.router.proofs.PairLaws.{levels-within, Pairable, pairs-ask, pairs-held}
use Rattle.router.proofs.route.route_lent.Goals as goal

-- ---- what first match answers

-- a row that is found is one of the m rows
abbrev Below : ℕ → Found → Type 0
Below m (row i) = i < m
Below m none = Unit {0}

found_below : (n m i : ℕ) → Below m (answering none n (row_or_none m i)).value
found_below zero m i = go (ltb i m) refl
  where
    go : (t : Bool) → ltb i m ≡ t → Below m (cond t (row i) none)
    go true e = ltb-true i m e
    go false e = tt
found_below (suc n) m i = tt

module _ (s : Shape) (mem : Memory) (inputs : List ℕ) where
  -- the first no, and the first row that matches
  abbrev fails : ℕ
  fails = first_no (array_questions s (length mem.cells) (length mem.lines) (first_arguments s inputs))

  abbrev matching : ℕ
  matching = first_from (λ i. eqb (row_match (levels s) (columns s) (task_vector s inputs) mem.cells mem.lines i) 1) s.rows 0

  row_below : (i : ℕ) → first_call s mem inputs ≡ accepted (row i) → i < s.rows
  unfolding first_call
  row_below i e = subst (λ a. Below s.rows a.value) e (found_below fails s.rows matching)

-- the route by first match's answer
abbrev routed : List ℕ → Option ℕ → Option Sent
routed belts (Some i) = Some (record { row = i; belt = get_or belts i 0 })
routed belts None = None

route-said :
    (s : Shape) (mem : Memory) (belts values : List ℕ) (first : Option ℕ)
    → first_no (route_questions s (length mem.cells) (length mem.lines) (length belts) values) ≡ 0
    → first_call s mem (bottle_inputs (levels s) values) ≡ accepted (found_of first)
    → route_call s mem belts values ≡ accepted (sent_to (routed belts first))
unfolding route_call
route-said s mem belts values first passed e =
    ap₂ (λ n a. answering nowhere n (destination belts a.value)) passed e ∙ ap accepted (go first)
  where
    go : (first : Option ℕ) → destination belts (found_of first) ≡ sent_to (routed belts first)
    go (Some i) = refl
    go None = refl

-- ---- the call

module _
    (s : Shape) (z : Sizes) (cells lines belts values : List ℕ)
    (p : Passed (route_questions s (length cells) (length lines) (length belts) values) s z) where
  given : RouteTaken s (length cells) (length lines) (length belts) values
  given = route-taken s _ _ _ values p.none

  pairable : Pairable s values values
  pairable =
      let bottle = given.bottle in
      record { taken = given.taken; even = given.even; firsts = bottle.count; seconds = bottle.count; below = bottle.below }

  within : Within 1 z.levels 256
  within = levels-within s given.taken z p.sizes

  -- once the pairs are made, they are the inputs of the bottle
  module _ (made : List ℕ) (are : made ≡ paired (z.levels - 1) values values) where
    held : Holds s.width (made ++ drop s.width blank) (bottle_inputs (levels s) values)
    unfolding bottle_inputs
    held = pairs-held s z p.sizes values values pairable made are

    abbrev inputs : List ℕ
    inputs = take s.width (made ++ drop s.width blank)

    inputs-pass : Passed (array_questions s (length cells) (length lines) (first_arguments s inputs)) s z
    inputs-pass =
        record {
          none = ap (fails s (with_array cells lines no_memory)) held.part ∙ route-asks s _ _ _ values given;
          sizes = p.sizes;
        }

    inputs-below : reaches (levels s) inputs ≡ true
    inputs-below = ap (reaches (levels s)) held.part ∙ inputs-reach (levels s) (features s) values given.bottle

    -- once first match has answered
    module _
        (answer known : Option ℕ) (answers : (mem : Memory) → first_call s (with_array cells lines mem) inputs ≡ accepted (found_of answer))
        (is : answer ≡ known) where
      found : (mem : Memory) → first_call s (with_array cells lines mem) (bottle_inputs (levels s) values) ≡ accepted (found_of known)
      found mem = ap (first_call s (with_array cells lines mem)) (sym held.part) ∙ answers mem ∙ ap (λ first. accepted (found_of first)) is

      told : (mem : Memory) → route_call s (with_array cells lines mem) belts values ≡ accepted (sent_to (routed belts known))
      told mem = route-said s (with_array cells lines mem) belts values known p.none (found mem)

pub overflow_sub-top : goal.overflow_sub-top
overflow_sub-top c = let args = c.args in (within args.shape args.sizes args.cells.now args.lines.now args.belts.now args.values.now c.requires).low

pub slice_bounds-inputs-end : goal.slice_bounds-inputs-end
slice_bounds-inputs-end c =
    let args = c.args in
    front_fits args.shape (given args.shape args.sizes args.cells.now args.lines.now args.belts.now args.values.now c.requires).taken

pub slice_bounds-pair-end : goal.slice_bounds-pair-end
slice_bounds-pair-end c =
    let args = c.args in
    sym (front-sized args.shape (given args.shape args.sizes args.cells.now args.lines.now args.belts.now args.values.now c.requires).taken)

pub pair-requires : goal.pair-requires
pair-requires c =
    let args = c.args in
    pairs-ask args.shape args.sizes c.requires.sizes args.values.now args.values.now
    (pairable args.shape args.sizes args.cells.now args.lines.now args.belts.now args.values.now c.requires)

pub slice_bounds-inputs-end-2 : goal.slice_bounds-inputs-end-2
slice_bounds-inputs-end-2 c =
    let args = c.args in
    (held args.shape args.sizes args.cells.now args.lines.now args.belts.now args.values.now c.requires c.pair.new.to c.pair.ensures).within

pub slice_bounds-first_below-end : goal.slice_bounds-first_below-end
slice_bounds-first_below-end c =
    let args = c.args in
    sym (held args.shape args.sizes args.cells.now args.lines.now args.belts.now args.values.now c.requires c.pair.new.to c.pair.ensures).sized

pub first_below-requires-clause-passed : goal.first_below-requires-clause-passed
first_below-requires-clause-passed c =
    let args = c.args in
    inputs-pass args.shape args.sizes args.cells.now args.lines.now args.belts.now args.values.now c.requires c.pair.new.to c.pair.ensures

pub first_below-requires-clause-inputs_value : goal.first_below-requires-clause-inputs_value
first_below-requires-clause-inputs_value c =
    let args = c.args in
    inputs-below args.shape args.sizes args.cells.now args.lines.now args.belts.now args.values.now c.requires c.pair.new.to c.pair.ensures

-- no match
pub returns-in_err-row : goal.returns-in_err-row
returns-in_err-row c =
    let args = c.args in
    λ mem. told args.shape args.sizes args.cells.now args.lines.now args.belts.now args.values.now c.requires c.pair.new.to c.pair.ensures
    _ None c.first_below.ensures c.in_err-row.was mem
    ∙ ap (λ sent. accepted (sent_to sent)) (sym c.from_residual.ensures)

pub bounds-belts-row : goal.bounds-belts-row
bounds-belts-row c =
    let args = c.args in
    let first =
    found args.shape args.sizes args.cells.now args.lines.now args.belts.now args.values.now c.requires c.pair.new.to c.pair.ensures
    _ _ c.first_below.ensures c.in_ok-row.was no_memory in
    let below = row_below args.shape (with_array args.cells.now args.lines.now no_memory) (bottle_inputs (levels args.shape) args.values.now) _ first in
    omega (arith, below, (given args.shape args.sizes args.cells.now args.lines.now args.belts.now args.values.now c.requires).belts)

-- a row
pub returns : goal.returns
returns c =
    let args = c.args in
    told args.shape args.sizes args.cells.now args.lines.now args.belts.now args.values.now c.requires c.pair.new.to c.pair.ensures
    _ _ c.first_below.ensures c.in_ok-row.was
