-- `router::read::rule_at_lent` meets its contract: the row's cells are taken apart into the buffers, and its belt is read. Assumes nothing.
use mathlib.Core.Path.{◌≡◌, sym, ap, ap₂, ◌∙◌}
use mathlib.Core.List.{[]}
use Prim.Native.Nat.{ℕ}
use native.Mathlib.Omega.{arith}
use lib.ListN.{length, get_or}
use Rattle.parity.specs.Shape.{levels, columns}
use Rattle.parity.specs.declared.Shape.{Shape}
use Rattle.shape.specs.Answers.{accepted, giving}
use Rattle.shape.specs.Bounds.{Within}
use Rattle.shape.specs.Shapes.{Passed}
use Rattle.shape.specs.declared.sizes.Sizes.{Sizes}
use Rattle.shape.proofs.Calling.{call-done}
use Rattle.array_memory.proofs.RowPlaces.{row-part, part-sized}
use Rattle.array_questions.proofs.Asked.{RowLies, row_lies}
use Rattle.router_ranges.specs.Ranges.{ranges_of, ranges_in}
use Rattle.router_questions.specs.Questions.{rule_at_questions}
use Rattle.router_questions.proofs.Asked.{RuleAtTaken, rule-at-taken}
use Rattle.router.specs.Calls.{rule_at_call}
use Rattle.router.proofs.PairLaws.{levels-within}
use Rattle.router.proofs.read.rule_at_lent.Goals as goal

-- what the questions say, and where the row lies
module _
    (s : Shape) (z : Sizes) (cells belts row lows highs : ℕ)
    (p : Passed (rule_at_questions s cells belts row lows highs) s z) where
  passed : RuleAtTaken s cells belts row lows highs
  passed = rule-at-taken s cells belts row lows highs p.none

  lies : RowLies s z cells row
  lies = row_lies s z cells row (record { taken = passed.taken; counted = passed.cells }) p.sizes passed.place

  within : Within 1 z.levels 256
  within = levels-within s passed.taken z p.sizes

pub overflow_mul-start : goal.overflow_mul-start
overflow_mul-start c = omega (arith, lies _ _ _ _ _ _ _ c.requires)

pub overflow_add-end : goal.overflow_add-end
overflow_add-end c = omega (arith, lies _ _ _ _ _ _ _ c.requires)

pub overflow_sub-top : goal.overflow_sub-top
overflow_sub-top c = (within _ _ _ _ _ _ _ c.requires).low

pub slice_bounds-unpair-end : goal.slice_bounds-unpair-end
slice_bounds-unpair-end c = omega (arith, lies _ _ _ _ _ _ _ c.requires)

pub unpair-requires : goal.unpair-requires
unfolding columns
unpair-requires c =
    let args = c.args in
    let p = passed args.shape args.sizes (length args.cells.now) (length args.belts.now) args.row (length args.lows.now) (length args.highs.now) c.requires in
    let wide = (lies _ _ _ _ _ _ _ c.requires).wide in
    let row = part-sized args.shape args.cells.now args.row p.cells p.place args.sizes.columns wide in
    record { same = p.highs ∙ sym p.lows; twice = omega (arith, row, p.lows, p.even) }

-- the ranges are out
pub returns : goal.returns
unfolding rule_at_call ranges_in
returns c =
    let args = c.args in
    let p = passed args.shape args.sizes (length args.cells.now) (length args.belts.now) args.row (length args.lows.now) (length args.highs.now) c.requires in
    let wide = (lies _ _ _ _ _ _ _ c.requires).wide in
    let counted : args.sizes.levels ≡ levels args.shape = ap (λ z. z.levels) c.requires.sizes in
    let row = row-part args.cells.now args.row (columns args.shape) args.sizes.columns wide in
    λ mem. call-done _ [] (ranges_of args.lows.now args.highs.now) _ c.requires.none
    ∙ ap (λ ranges. giving (accepted (get_or args.belts.now args.row 0)) [] ranges)
    (sym (ap₂ ranges_of c.unpair.ensures.low c.unpair.ensures.high ∙ (λ i. ranges_in (counted i) (p.lows i) (row i))))
