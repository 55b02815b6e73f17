-- `cycle::calls::clear_lent` meets its contract: every buffer is filled with 0. Assumes nothing.
use mathlib.Core.Path.{refl, sym, ap, ◌∙◌}
use mathlib.Core.List.{List, []}
use Prim.Native.Nat.{ℕ}
use lib.Dec.{lit<}
use lib.ListN.{replicate}
use Rattle.parity.specs.Questions.{lengths_question}
use Rattle.shape.specs.Answers.{accepted, giving}
use Rattle.shape.proofs.Refusals.{call-passed}
use Rattle.shape.proofs.Calling.{call-done}
use Rattle.array_memory.specs.Lengths.{all_wanted, all_lengths, Sized}
use Rattle.array_memory.specs.Memory.{Memory, with_all, no_memory}
use Rattle.array_memory.proofs.Asked.{all-sized}
use Rattle.cycle.specs.Calls.{state_of, zero_rows, cleared, clear_call}
use Rattle.cycle.specs.Record.{idle}
use Rattle.cycle.proofs.calls.clear_lent.Goals as goal

-- all is 0
pub returns : goal.returns
unfolding clear_call cleared zero_rows
returns c =
    let args = c.args in
    let s = args.shape in
    let lent : Memory → Memory = λ mem. with_all args.cells.now args.lines.now args.counters.now args.flags.now args.totals.now mem in
    let lengths = all_lengths (lent no_memory) in
    let z : Sized s (lent no_memory) =
    all-sized s (lent no_memory) (call-passed s [] (lengths_question lengths (all_wanted s)) [] refl (lit< tt) c.requires.none).lent in
    let zeros : ℕ → List ℕ = λ n. replicate n 0 in
    let made = c.reset_rows.ensures in
    let counters = made.counted ∙ ap zeros z.rows.counters in
    let flags = made.flagged ∙ ap zeros z.rows.flags in
    let totals = made.totalled ∙ ap zeros z.rows.totals in
    let lines-made = (c.fill-2.ensures.after (λ y e. e)) ∙ ap zeros z.lines in
    let cells-made = (c.fill.ensures.after (λ y e. e)) ∙ ap zeros z.cells in
    λ mem cycle. call-done _ [] (state_of (lent mem) cycle) _ c.requires.none
    ∙ sym (λ i. giving (accepted 0) [] (state_of (with_all (cells-made i) (lines-made i) (counters i) (flags i) (totals i) mem) idle))
