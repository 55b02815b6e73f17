-- `cycle_lookup::opening::make_opening` meets its contract: each row's line makes its match byte, and rows that give another than a sound one are flagged.
-- Assumes nothing.
use mathlib.Core.Path.{◌≡◌, refl, sym, ◌∙◌}
use mathlib.Core.List.{List}
use Prim.Native.Nat.{ℕ}
use lib.ListN.{length}
use Rattle.parity.specs.Questions.{Taken}
use Rattle.parity.specs.declared.Shape.{Shape}
use Rattle.schedule.specs.Schedule.{Entry}
use Rattle.array_memory.specs.Lengths.{Sized}
use Rattle.array_memory.specs.Memory.{Memory, with_lines, with_flagged, with_rows}
use Rattle.cycle_lookup.specs.Lookup.{entry_matches, looked_up}
use Rattle.cycle_lookup.specs.Rows.{opening_of}
use Rattle.cycle_lookup.proofs.Passes.{opening-matches, opening-counters, opening-flags, totals-counted}
use Rattle.cycle_lookup.proofs.opening.make_opening.Goals as goal

-- what is left in all
opened-as :
    (s : Shape) (e : Entry) (mem : Memory) {flags totals : List ℕ}
    → mem.counters ≡ (looked_up s e mem).counters → flags ≡ (looked_up s e mem).flags → totals ≡ (looked_up s e mem).totals
    → looked_up s e mem ≡ with_flagged flags totals mem
unfolding looked_up
opened-as s e mem c f t = sym (λ i. with_rows (c i) (f i) (t i) mem)

pub returns : goal.returns
returns c =
    let args = c.args in
    let byte = args.byte in
    let looked :
    (s : Shape) → Taken s → (mem : Memory) → Sized s (with_lines args.lines.now mem)
    → c.match_lines.new.matches ≡ entry_matches s (opening_of s byte) (with_lines args.lines.now mem) =
    λ s t mem sized.
    opening-matches s t byte c.requires.byte_bound (with_lines args.lines.now mem) sized.cells (length args.matches.now)
    (sym c.requires.flags_lent.matches ∙ sized.lines) c.match_lines.ensures in
    record {
      matched = λ s t mem sized. sym (looked s t mem sized);
      opened = λ s t mem sized.
          let whole = with_lines args.lines.now (with_flagged args.flags.now args.totals.now mem) in
          let e = opening_of s byte in
          let made =
          opening-flags s byte whole sized (looked s t (with_flagged args.flags.now args.totals.now mem) sized) c.flag_rows.ensures in
          opened-as s e whole (opening-counters s byte whole sized) made (totals-counted s e whole refl made c.total_blocks.ensures);
    }
