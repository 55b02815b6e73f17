-- `router::rule::rule_lent` meets its contract: the levels are made in an array, `write_row` is lent that part of it, and the belt is stored. Assumes nothing.
use mathlib.Core.Path.{◌≡◌, sym, ap, ◌∙◌}
use mathlib.Core.List.{List, [], ◌++◌}
use Prim.Native.Nat.{ℕ, ◌-◌}
use lib.ListN.{length, take, drop, set}
use Rattle.parity.specs.Codeword.{encode}
use Rattle.parity.specs.Shape.{levels}
use Rattle.parity.specs.Questions.{first_no}
use Rattle.parity.specs.declared.Shape.{Shape}
use Rattle.shape.specs.Answers.{accepted, giving}
use Rattle.shape.specs.Bounds.{Within}
use Rattle.shape.specs.Shapes.{Passed}
use Rattle.shape.specs.declared.sizes.Sizes.{Sizes}
use Rattle.shape.proofs.Calling.{call-done}
use Rattle.array_memory.specs.Memory.{with_cells}
use Rattle.array_questions.specs.Questions.{cells_questions, program_arguments}
use Rattle.array.specs.Calls.{row_written}
use Rattle.cycle.specs.Calls.{state_of, program_call}
use Rattle.cycle.specs.Record.{idle}
use Rattle.array_lookup.proofs.Front.{blank, Holds, front_fits, front-sized}
use Rattle.router_ranges.specs.Ranges.{paired, ranges_of, rule_levels}
use Rattle.router_questions.specs.Questions.{rule_questions}
use Rattle.router_questions.proofs.Asked.{RuleTaken, rule-taken, rule-programs}
use Rattle.router.specs.Calls.{with_belts, rule_call}
use Rattle.router.proofs.PairLaws.{levels-within, Pairable, pairs-ask, pairs-held}
use Rattle.router.proofs.rule.rule_lent.Goals as goal

module _
    (s : Shape) (z : Sizes) (cells belts row : ℕ) (lows highs : List ℕ)
    (p : Passed (rule_questions s cells belts row (ranges_of lows highs)) s z) where
  -- what the questions say: of the rule, of the programming of its levels, and of their pairing
  passed : RuleTaken s cells belts row (ranges_of lows highs)
  passed = rule-taken s cells belts row (ranges_of lows highs) p.none

  programs : first_no (cells_questions s cells (program_arguments s row (rule_levels (levels s) (ranges_of lows highs)))) ≡ 0
  programs = rule-programs s cells belts row (ranges_of lows highs) passed

  pairable : Pairable s highs lows
  pairable =
      let at = passed.at in
      record { taken = at.taken; even = at.even; firsts = at.highs; seconds = at.lows; below = passed.proper.low }

  within : Within 1 z.levels 256
  within = levels-within s passed.at.taken z p.sizes

  -- once the pairs are made, they are the levels of the rule
  module _ (made : List ℕ) (are : made ≡ paired (z.levels - 1) highs lows) where
    held : Holds s.width (made ++ drop s.width blank) (rule_levels (levels s) (ranges_of lows highs))
    unfolding rule_levels
    held = pairs-held s z p.sizes highs lows pairable made are

    made-programs : Passed (cells_questions s cells (program_arguments s row (take s.width (made ++ drop s.width blank)))) s z
    made-programs =
        record {
          none = ap (λ given. first_no (cells_questions s cells (program_arguments s row given))) held.part ∙ programs;
          sizes = p.sizes;
        }

pub overflow_sub-top : goal.overflow_sub-top
overflow_sub-top c =
    let args = c.args in
    (within args.shape args.sizes (length args.cells.now) (length args.belts.now) args.row args.lows.now args.highs.now c.requires).low

pub slice_bounds-levels-end : goal.slice_bounds-levels-end
slice_bounds-levels-end c =
    let args = c.args in
    let p = passed args.shape args.sizes (length args.cells.now) (length args.belts.now) args.row args.lows.now args.highs.now c.requires in
    front_fits args.shape p.at.taken

pub slice_bounds-pair-end : goal.slice_bounds-pair-end
slice_bounds-pair-end c =
    let args = c.args in
    let p = passed args.shape args.sizes (length args.cells.now) (length args.belts.now) args.row args.lows.now args.highs.now c.requires in
    sym (front-sized args.shape p.at.taken)

pub pair-requires : goal.pair-requires
pair-requires c =
    let args = c.args in
    pairs-ask args.shape args.sizes c.requires.sizes args.highs.now args.lows.now
    (pairable args.shape args.sizes (length args.cells.now) (length args.belts.now) args.row args.lows.now args.highs.now c.requires)

pub slice_bounds-levels-end-2 : goal.slice_bounds-levels-end-2
slice_bounds-levels-end-2 c =
    let args = c.args in
    (held args.shape args.sizes (length args.cells.now) (length args.belts.now) args.row args.lows.now args.highs.now c.requires
    c.pair.new.to c.pair.ensures).within

pub slice_bounds-write_row-end : goal.slice_bounds-write_row-end
slice_bounds-write_row-end c =
    let args = c.args in
    sym (held args.shape args.sizes (length args.cells.now) (length args.belts.now) args.row args.lows.now args.highs.now c.requires
    c.pair.new.to c.pair.ensures).sized

pub write_row-requires : goal.write_row-requires
write_row-requires c =
    let args = c.args in
    made-programs args.shape args.sizes (length args.cells.now) (length args.belts.now) args.row args.lows.now args.highs.now c.requires
    c.pair.new.to c.pair.ensures

-- the row is written, and its belt
pub returns : goal.returns
unfolding rule_call program_call
returns c =
    let args = c.args in
    let s = args.shape in
    let lent = args.cells.now in
    let program = programs s args.sizes (length lent) (length args.belts.now) args.row args.lows.now args.highs.now c.requires in
    let pairs =
    held s args.sizes (length lent) (length args.belts.now) args.row args.lows.now args.highs.now c.requires c.pair.new.to c.pair.ensures in
    λ mem cycle. call-done _ [] _ _ c.requires.none
    ∙ ap (with_belts (set args.belts.now args.row args.belt))
    (call-done _ [] (state_of (with_cells lent mem) cycle) _ program
    ∙ ap (λ m. giving (accepted 0) [] (state_of m idle))
    (ap (λ given. row_written s (with_cells lent mem) args.row (encode s given)) (sym pairs.part) ∙ c.write_row.ensures mem))
