-- `panel::panel_lent` meets its contract: the first block whose total isn't 0 is the part of the flags that is searched. Assumes nothing.
use mathlib.Core.Path.{◌≡◌, refl, sym, ◌∙◌, ap}
use mathlib.Core.List.{List, [], ◌∷◌}
use Prim.Native.Nat.{ℕ, ◌-◌, ◌*◌, ◌≤◌, ◌<◌}
use native.Mathlib.Omega.{arith}
use lib.Dec.{lit<}
use lib.ListN.{length}
use borrow.Rule.Slice.PartMut.{mid_of}
use borrow.Author.Tests.{lt-ltb, le-ltb}
use Rattle.std.specs.declared.result.Result.{Result}
use Rattle.parity.specs.Lists.{sum_over}
use Rattle.parity.specs.Questions.{first_no, lengths_question}
use Rattle.parity.specs.declared.Shape.{Shape}
use Rattle.parity.proofs.Taken.{limits}
use Rattle.shape.specs.Answers.{none, accepted, answering}
use Rattle.shape.proofs.Refusals.{call-passed}
use Rattle.array_memory.specs.Blocks.{blocks_of, block_end}
use Rattle.array_memory.specs.Lengths.{flagged_wanted}
use Rattle.array_memory.specs.Memory.{Memory, with_flagged}
use Rattle.array_memory.proofs.Asked.{flagged-counted}
use Rattle.array_memory.proofs.BlockPlaces.{block-starts, blocks-few, block-part}
use Rattle.panel.specs.Panel.{Reading, reading, no_reading, first_nonzero, panel_questions, panel_reading, panel_call}
use Rattle.panel.specs.Reads.{summed, searched}
use Rattle.panel.specs.declared.Totals.{Totals}
use Rattle.panel.proofs.Readings.{reads_none, reads-block, told_by}
use Rattle.panel.proofs.panel_lent.Goals as goal

-- what the questions that were passed say of the lengths of flags and totals
record Given (flags totals : List ℕ) : Type 0 where
  few : length flags ≤ 4096
  counted : length totals ≡ blocks_of (length flags)

-- the first block whose total isn't 0, where the sum of the totals says that there is one
record Inside (flags totals : List ℕ) (all : Totals) : Type 0 where
  within : first_nonzero totals < length totals
  starts : all.block * 64 ≡ first_nonzero totals * 64
  inside : first_nonzero totals * 64 < length flags
  few : length flags ≤ 4096

module _ (s : Shape) (flags totals : List ℕ) (asked : first_no (panel_questions s (length flags ∷ length totals ∷ [])) ≡ 0) where
  given : Given flags totals
  given =
      let p = call-passed s [] (lengths_question (length flags ∷ length totals ∷ []) (flagged_wanted s)) [] refl (lit< tt) asked in
      let sized = flagged-counted s (length flags) (length totals) p.lent in
      record { few = rw sized.0 (limits s p.taken).rows_high; counted = sized.1 ∙ sym (ap blocks_of sized.0) }

  -- so the call says what is read
  says : {told : Reading} → told ≡ panel_reading flags totals → (mem : Memory) → panel_call s (with_flagged flags totals mem) ≡ accepted told
  unfolding panel_call
  says e mem = ap (λ n. answering no_reading n (panel_reading flags totals)) asked ∙ ap accepted (sym e)

  module _ (all : Totals) (summed-up : all ≡ summed totals) where
    added : all.sum ≡ sum_over totals (λ t. t)
    added = ap (λ r. r.sum) summed-up

    chooses : all.block ≡ first_nonzero totals
    chooses = ap (λ r. r.block) summed-up

    -- no total is up
    nothing : length totals ≤ all.block → (mem : Memory) → panel_call s (with_flagged flags totals mem) ≡ accepted (reading all.sum none 0)
    nothing none-up =
        says (reads_none flags totals added (le-ltb (first_nonzero totals) (length totals) (omega (arith, chooses))))

    module _ (up : all.block < length totals) where
      place : Inside flags totals all
      place =
          let within : first_nonzero totals < length totals = omega (arith, chooses) in
          record {
            within = within;
            starts = ap (λ n. n * 64) chooses;
            inside = block-starts (first_nonzero totals) (length flags) (omega (arith, given.counted));
            few = given.few;
          }

      module _ (end : ℕ) (ends : end ≡ block_end (all.block * 64) (length flags)) where
        abbrev lent : List ℕ
        lent = mid_of (all.block * 64) (end - all.block * 64) flags

        -- what a search through what is lent of the flags tells
        told :
            (search : Result ℕ ℕ) → search ≡ searched lent
            → (mem : Memory) → panel_call s (with_flagged flags totals mem) ≡ accepted (told_by all.sum (all.block * 64) search)
        told search found =
            says
            (ap (told_by all.sum (all.block * 64))
            (found ∙ ap searched (block-part flags (first_nonzero totals) (all.block * 64) end place.starts ends))
            ∙ reads-block flags totals added (lt-ltb (first_nonzero totals) (length totals) place.within) place.starts)

-- ---- the needs

pub sum_totals-all-requires : goal.sum_totals-all-requires
sum_totals-all-requires c =
    let flags = c.args.flags.now in
    let known = given c.args.shape flags c.args.totals.now c.requires.none in
    omega (arith, known.counted, blocks-few (length flags) known.few)

-- no total is up
pub returns-then-totals-all : goal.returns-then-totals-all
returns-then-totals-all c =
    nothing c.args.shape c.args.flags.now c.args.totals.now c.requires.none c.sum_totals-all.result c.sum_totals-all.ensures c.if-totals-all.true

pub overflow_mul-start : goal.overflow_mul-start
overflow_mul-start c =
    let at = place c.args.shape c.args.flags.now c.args.totals.now c.requires.none c.sum_totals-all.result c.sum_totals-all.ensures c.if-totals-all.false in
    omega (arith, at.starts, at.inside, at.few)

pub block_end-end-requires : goal.block_end-end-requires
block_end-end-requires c =
    let at = place c.args.shape c.args.flags.now c.args.totals.now c.requires.none c.sum_totals-all.result c.sum_totals-all.ensures c.if-totals-all.false in
    omega (arith, at.starts, at.inside)

pub slice_bounds-search_block-count : goal.slice_bounds-search_block-count
slice_bounds-search_block-count c =
    let at = place c.args.shape c.args.flags.now c.args.totals.now c.requires.none c.sum_totals-all.result c.sum_totals-all.ensures c.if-totals-all.false in
    omega (arith, c.block_end-end.ensures, at.starts, at.inside)

pub slice_bounds-search_block-start : goal.slice_bounds-search_block-start
slice_bounds-search_block-start c =
    let at = place c.args.shape c.args.flags.now c.args.totals.now c.requires.none c.sum_totals-all.result c.sum_totals-all.ensures c.if-totals-all.false in
    omega (arith, c.block_end-end.ensures, at.starts, at.inside)

-- no flag is up
pub returns-in-Err : goal.returns-in-Err
returns-in-Err c =
    told c.args.shape c.args.flags.now c.args.totals.now c.requires.none c.sum_totals-all.result c.sum_totals-all.ensures c.if-totals-all.false
    c.block_end-end.result c.block_end-end.ensures _ c.in-Err.ensures

-- the first flagged row
pub returns-in-Ok : goal.returns-in-Ok
returns-in-Ok c =
    told c.args.shape c.args.flags.now c.args.totals.now c.requires.none c.sum_totals-all.result c.sum_totals-all.ensures c.if-totals-all.false
    c.block_end-end.result c.block_end-end.ensures _ c.in-Ok.ensures
