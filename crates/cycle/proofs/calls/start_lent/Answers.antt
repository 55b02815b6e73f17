-- `cycle::calls::start_lent` meets its contract: counters, flags and totals are filled with 0, and the record is that of a start. Assumes nothing.
use mathlib.Core.Path.{refl, sym, ap, ◌∙◌}
use mathlib.Core.List.{List, []}
use Prim.Native.Nat.{ℕ}
use lib.Dec.{lit<}
use lib.ListN.{replicate}
use Rattle.parity.specs.Questions.{lengths_question}
use Rattle.shape.specs.Answers.{accepted, giving}
use Rattle.shape.proofs.Refusals.{CallPassed, call-passed}
use Rattle.shape.proofs.Calling.{call-done}
use Rattle.array_memory.specs.Lengths.{rows_wanted, rows_lengths, RowsSized}
use Rattle.array_memory.specs.Memory.{Memory, with_rows, no_memory}
use Rattle.array_memory.proofs.Asked.{rows-sized}
use Rattle.array_questions.specs.Questions.{start_arguments}
use Rattle.cycle.specs.Calls.{state_of, zero_rows, started, start_call}
use Rattle.cycle.proofs.CycleRecord.{start-record}
use Rattle.cycle.proofs.calls.start_lent.Goals as goal

-- a cycle is open
pub returns : goal.returns
unfolding start_call started zero_rows
returns c =
    let args = c.args in
    let s = args.shape in
    let skip = args.skip in
    let lent : Memory → Memory = λ mem. with_rows args.counters.now args.flags.now args.totals.now mem in
    let lengths = rows_lengths (lent no_memory) in
    let p : CallPassed s (start_arguments s skip) (lengths_question lengths (rows_wanted s)) [] =
    call-passed s (start_arguments s skip) (lengths_question lengths (rows_wanted s)) [] refl (lit< tt) c.requires.none in
    let z : RowsSized s (lent no_memory) = rows-sized s (lent no_memory) p.lent in
    let zeros : ℕ → List ℕ = λ n. replicate n 0 in
    let made = c.reset_rows.ensures in
    let counters = made.counted ∙ ap zeros z.counters in
    let flags = made.flagged ∙ ap zeros z.flags in
    let totals = made.totalled ∙ ap zeros z.totals in
    let opened = c.opening.ensures ∙ sym (start-record skip s p.taken) in
    λ mem cycle. call-done _ [] (state_of (lent mem) cycle) _ c.requires.none
    ∙ sym (λ i. giving (accepted 0) [] (state_of (with_rows (counters i) (flags i) (totals i) mem) (opened i)))
