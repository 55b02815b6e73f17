-- What the panel is told is what a full reading of the flags tells, where each total is its block's count of flagged rows. Assumes nothing.
use mathlib.Core.Path.{◌≡◌, refl, sym, ◌∙◌, ap, ap₂}
use mathlib.Core.Bool.{Bool, true, false, cond}
use mathlib.Core.List.{List, [], ◌∷◌}
use Prim.Native.Nat.{ℕ, zero, suc, ◌+◌, ◌-◌, ◌*◌, ◌≤◌, ◌<◌, suc-le-suc}
use native.Mathlib.Nat.{zero-lt-suc}
use native.Mathlib.Omega.{arith}
use lib.ListN.{length, get_or, take, drop, length-drop, length-take}
use lib.Dec.{ltb}
use lib.Seq.{take_all, get_or-take}
use borrow.Author.Tests.{ltb-true, ltb-false, lt-ltb, le-ltb}
use Rattle.parity.specs.Lists.{tabulate, sum_over, sum_to}
use Rattle.parity.specs.Questions.{first_no, lengths_question}
use Rattle.parity.proofs.Alongside.{equal-alongside}
use Rattle.parity.proofs.ListLaws.{length-tabulate, get_or-tabulate, sum-append}
use Rattle.shape.specs.Answers.{row, none, row_or_none, accepted}
use Rattle.shape.proofs.Refusals.{call-rest}
use Rattle.array_memory.specs.Blocks.{blocks_of, block_at, count_flagged, block_totals}
use Rattle.array_memory.specs.Lengths.{flagged_wanted, flagged_lengths}
use Rattle.array_memory.proofs.BlockPlaces.{blocks-reach, block-low, block-flag}
use Rattle.array_memory.proofs.FlagCounts.{count-zero, zero-count, count-blocks}
use Rattle.call_lists.specs.Run.{run}
use Rattle.panel.specs.Panel.{reading, first_nonzero, any_nonzero, first_in, read_count, panel_reading, panel_questions, panel_call}
use Rattle.panel.specs.Panel.{first_flagged, read_through, full_reading}
use Rattle.panel.specs.Claims.{FullReadingClaim}
use Rattle.panel.proofs.FirstFlags.{first-before, first-there, first-is}
use Rattle.panel.proofs.TotalsKept.{Totalled, totalled}

-- ---- sums

sum-tabulate : (n : ℕ) (f : ℕ → ℕ) → sum_over (tabulate n f) (λ t. t) ≡ sum_to n f
sum-tabulate zero f = refl
sum-tabulate (suc n) f = omega (arith, sum-append (λ t. t) (tabulate n f) (f n ∷ []), sum-tabulate n f)

sum-zero : (n : ℕ) (f : ℕ → ℕ) → ((i : ℕ) → i < n → f i ≡ 0) → sum_to n f ≡ 0
sum-zero zero f zeros = refl
sum-zero (suc n) f zeros = omega (arith, sum-zero n f (λ i h. zeros i (omega arith)), zeros n (omega arith))

sum-none : (xs : List ℕ) → ((j : ℕ) → j < length xs → get_or xs j 0 ≡ 0) → sum_over xs (λ t. t) ≡ 0
sum-none [] zeros = refl
sum-none (x ∷ xs) zeros = omega (arith, zeros zero (zero-lt-suc _), sum-none xs (λ j h. zeros (suc j) (suc-le-suc h)))

-- ---- the flags, block by block

module _ (flags : List ℕ) where
  abbrev total : ℕ → ℕ
  total i = count_flagged (block_at flags i)

  totals-length : length (block_totals flags) ≡ blocks_of (length flags)
  unfolding block_totals
  totals-length = length-tabulate (blocks_of (length flags)) total

  -- all blocks together
  total-sum : sum_over (block_totals flags) (λ t. t) ≡ count_flagged flags
  unfolding block_totals
  total-sum =
      let n = blocks_of (length flags) in
      sum-tabulate n total ∙ sym (count-blocks flags n) ∙ ap count_flagged (take_all (n * 64) flags (blocks-reach (length flags)))

  -- total i, where it is one
  total-at : (i : ℕ) → i < length (block_totals flags) → get_or (block_totals flags) i 0 ≡ total i
  unfolding block_totals
  total-at i h = get_or-tabulate (blocks_of (length flags)) total i 0 (omega (arith, length-tabulate (blocks_of (length flags)) total))

  -- ---- where no total is up, no row is flagged
  none-flagged : any_nonzero (block_totals flags) ≡ false → none ≡ first_flagged flags
  unfolding first_flagged
  none-flagged e =
      let totals = block_totals flags in
      let past : length totals ≤ first_nonzero totals = ltb-false (first_nonzero totals) (length totals) e in
      let zero_flags : count_flagged flags ≡ 0 = sym total-sum ∙ sum-none totals (λ j h. first-before totals j (omega arith)) in
      let not-less : first_nonzero flags < length flags → ⊥ = λ l. first-there flags l (count-zero flags zero_flags (first_nonzero flags)) in
      sym (ap (λ t. cond t (row (first_nonzero flags)) none) (le-ltb (first_nonzero flags) (length flags) (omega (arith, not-less))))

  -- ---- the first block whose total is up
  module _ (e : any_nonzero (block_totals flags) ≡ true) where
    abbrev i : ℕ
    i = first_nonzero (block_totals flags)

    abbrev block : List ℕ
    block = block_at flags i

    within : i < length (block_totals flags)
    within = ltb-true i (length (block_totals flags)) e

    -- no row before it is flagged, and some row of it is
    before : (j : ℕ) → j < i * 64 → get_or flags j 0 ≡ 0
    before j h =
        let totals = block_totals flags in
        let zeros : (k : ℕ) → k < i → total k ≡ 0 = λ k l. sym (total-at k (omega (arith, within))) ∙ first-before totals k l in
        sym (get_or-take (i * 64) flags j 0 h) ∙ count-zero (take (i * 64) flags) (count-blocks flags i ∙ sum-zero i total zeros) j

    some : first_nonzero block < length block
    some =
        let not-all : length block ≤ first_nonzero block → ⊥ =
        λ g. first-there (block_totals flags) within (total-at i within ∙ zero-count block (λ j h. first-before block j (omega arith)))
        in
        omega (arith, not-all)

    -- so no row before the block's first flag
    quiet : (j : ℕ) → j < i * 64 + first_nonzero block → get_or flags j 0 ≡ 0
    quiet j h = go (ltb j (i * 64)) refl
      where
        go : (b : Bool) → ltb j (i * 64) ≡ b → get_or flags j 0 ≡ 0
        go true l = before j (ltb-true j (i * 64) l)
        go false g =
            let high : i * 64 ≤ j = ltb-false j (i * 64) g in
            let place : i * 64 + (j - i * 64) ≡ j = omega arith in
            let low : first_nonzero block < 64 = omega (arith, some, block-low flags i) in
            ap (λ k. get_or flags k 0) (sym place)
            ∙ sym (block-flag flags i (j - i * 64) (omega arith))
            ∙ first-before block (j - i * 64) (omega arith)

    inside : i * 64 + first_nonzero block < length flags
    unfolding block_at
    inside = omega (arith, some, length-take 64 (drop (i * 64) flags), length-drop (i * 64) flags)

    first-flag : first_nonzero flags ≡ i * 64 + first_nonzero block
    first-flag =
        first-is flags (i * 64 + first_nonzero block) inside
        quiet
        (λ e. first-there block some (block-flag flags i (first_nonzero block) (omega (arith, some, block-low flags i)) ∙ e))

    row_first : row (i * 64 + first_nonzero block) ≡ first_flagged flags
    unfolding first_flagged
    row_first =
        sym (ap (λ t. cond t (row (i * 64 + first_nonzero block)) none) (lt-ltb (i * 64 + first_nonzero block) (length flags) inside))
        ∙ ap (row_or_none (length flags)) (sym first-flag)

    row_told : first_in flags i ≡ first_flagged flags
    row_told = ap (λ t. cond t (row (i * 64 + first_nonzero block)) none) (lt-ltb (first_nonzero block) (length block) some) ∙ row_first

    -- as many flags are read as stand from the block's start through that row's
    read_told : read_count block ≡ read_through (first_flagged flags)
    read_told =
        let low : first_nonzero block < 64 = omega (arith, some, block-low flags i) in
        let place : suc (first_nonzero block) ≡ read_through (row (i * 64 + first_nonzero block)) = omega arith in
        ap (λ t. cond t (suc (first_nonzero block)) (length block)) (lt-ltb (first_nonzero block) (length block) some)
        ∙ place
        ∙ ap read_through row_first

  -- ---- so what the panel is told is what a full reading tells
  full : panel_reading flags (block_totals flags) ≡ full_reading flags
  unfolding panel_reading full_reading
  full = go (any_nonzero (block_totals flags)) refl
    where
      go : (b : Bool) → any_nonzero (block_totals flags) ≡ b → panel_reading flags (block_totals flags) ≡ full_reading flags
      go true e = rw e (λ j. reading (total-sum j) (row_told e j) (read_told e j))
      go false e = rw e (ap₂ (λ total first. reading total first (read_through first)) total-sum (none-flagged e))

-- ---- the claim

pub full_reading_claim : FullReadingClaim
unfolding panel_call
full_reading_claim s t calls =
    let mem = (run s calls).memory in
    let kept : Totalled s mem.flags mem.totals = totalled s calls in
    let blocks : length mem.totals ≡ blocks_of s.rows =
    ap length kept.counted ∙ totals-length mem.flags ∙ ap blocks_of kept.sized
    in
    let asked : first_no (panel_questions s (flagged_lengths mem)) ≡ 0 =
    call-rest s [] (lengths_question (flagged_lengths mem) (flagged_wanted s)) [] t (equal-alongside _ _ (λ i. kept.sized i ∷ blocks i ∷ []))
    in
    rw (asked, kept.counted) (ap accepted (full mem.flags))
