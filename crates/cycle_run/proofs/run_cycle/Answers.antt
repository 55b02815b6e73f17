-- `cycle_run::run_cycle` meets its contract: `check_run` asks 15 and then 6, `start_lent` starts the cycle, and `steps_lent` makes its steps: no fewer
-- than it has. Assumes nothing.
use mathlib.Core.Path.{◌≡◌, refl, sym, ◌∙◌, ap, subst}
use mathlib.Core.List.{List, [], ◌∷◌}
use mathlib.Core.Bool.{true}
use Prim.Native.Nat.{ℕ, ◌≤◌, ◌<◌}
use native.Mathlib.Omega.{arith}
use lib.Dec.{lit<}
use lib.ListN.{length, replicate}
use Rattle.parity.specs.Matrix.{cycle_steps}
use Rattle.parity.specs.Questions.{Question, lengths_question}
use Rattle.parity.specs.Claims.{most_steps}
use Rattle.parity.specs.declared.Shape.{Shape}
use Rattle.parity.proofs.Alongside.{equal-alongside}
use Rattle.parity.proofs.Longest.{lookups-high}
use Rattle.parity.proofs.Taken.{first-yes, skip_below}
use Rattle.shape.specs.Answers.{accepted, giving}
use Rattle.shape.specs.Shapes.{Passed}
use Rattle.shape.specs.declared.sizes.Sizes.{Sizes}
use Rattle.shape.proofs.Refusals.{answer-taken, answer-refused, length-lent, CallPassed, call-passed}
use Rattle.shape.proofs.Calling.{call-done}
use Rattle.array_memory.specs.Lengths.{all_wanted, rows_lengths, all_lengths, Sized}
use Rattle.array_memory.specs.Memory.{Memory, with_array, with_rows, with_all, no_memory}
use Rattle.array_memory.proofs.Asked.{all-sized}
use Rattle.array_questions.specs.Questions.{start_arguments, start_questions, step_arguments, lent_questions}
use Rattle.cycle_lookup.specs.Lookup.{entry_matches}
use Rattle.cycle.specs.declared.Cycle.{Cycle as CycleRecord}
use Rattle.cycle.specs.Record.{cycle_at, is_next}
use Rattle.cycle.specs.Calls.{State, state_of, started, start_call, step_questions}
use Rattle.cycle.proofs.Asked.{start-asked, lent-asked, step-asked}
use Rattle.cycle.proofs.CycleRecord.{next-open}
use Rattle.cycle.proofs.Steps.{started-sized, start-done}
use Rattle.cycle.proofs.Given.{gives-refusal}
use Rattle.cycle_steps.specs.Steps.{after_steps, steps_call}
use Rattle.cycle_steps.proofs.Stepping.{At}
use Rattle.cycle_run.specs.Cycles.{cycle_questions, last_matches, cycle_call}
use Rattle.cycle_run.proofs.WholeCycle.{stepping-all}
use Rattle.cycle_run.proofs.run_cycle.Goals as goal

-- what is known of buffers that are lent where the questions are passed
module _
    (s : Shape) (z : ℕ) (cells lines counters flags totals matches : List ℕ) (sizes : Sizes)
    (asked : Passed (cycle_questions s (with_all cells lines counters flags totals no_memory) z matches) s sizes) where
  abbrev lent : Memory → Memory
  lent mem = with_all cells lines counters flags totals mem

  parts : CallPassed s (start_arguments s z) (lengths_question (all_lengths (lent no_memory)) (all_wanted s)) (step_arguments s (length matches))
  parts =
      call-passed s (start_arguments s z) (lengths_question (all_lengths (lent no_memory)) (all_wanted s))
      (step_arguments s (length matches)) refl (lit< tt) asked.none

  sized : Sized s (lent no_memory)
  sized = all-sized s (lent no_memory) parts.lent

  partial : z < s.digits
  partial = skip_below s z parts.numbers

  matches-sized : length matches ≡ s.rows
  matches-sized =
      let six = first-yes _ 0 6 (lit< tt) parts.arguments in
      length-lent (length matches ∷ []) (s.rows ∷ []) six.0 0

  -- the start may be made
  start-passes : (cycle : CycleRecord) → Passed (start_questions s z (rows_lengths (lent no_memory))) s sizes
  start-passes cycle = record { none = start-asked s parts.taken (state_of (lent no_memory) cycle) sized z ∙ parts.numbers; sizes = asked.sizes }

  -- the state that the start leaves
  module _
      (cycle opening : CycleRecord) (counters' flags' totals' : List ℕ)
      (made :
      (mem : Memory) (cycle : CycleRecord) → start_call s (state_of (with_rows counters flags totals mem) cycle) z
      ≡ giving (accepted 0) [] (state_of (with_rows counters' flags' totals' mem) opening)) where
    abbrev first : Memory → State
    first mem = state_of (with_all cells lines counters' flags' totals' mem) opening

    left : (mem : Memory) → (start_call s (state_of (lent mem) cycle) z).state ≡ first mem
    left mem = ap (λ r. r.state) (made (with_array cells lines mem) cycle)

    begun : started s (state_of (lent no_memory) cycle) z ≡ first no_memory
    begun = sym (start-done s (state_of (lent no_memory) cycle) sized parts.taken z partial) ∙ left no_memory

    -- its record is that of the first lookup, with the digits to skip in it
    opened-cycle : cycle_at z s 0 ≡ opening
    unfolding started
    opened-cycle = ap (λ st. st.cycle) begun

    first-sized : Sized s (first no_memory).memory
    first-sized = subst (λ st. Sized s st.memory) begun (started-sized s (state_of (lent no_memory) cycle) sized z)

    -- the steps may be made from it
    steps-pass : Passed (lent_questions s [] (all_lengths (first no_memory).memory) (length matches)) s sizes
    steps-pass =
        record {
          none =
              lent-asked s parts.taken (first no_memory) first-sized [] (length matches)
              ∙ simp (equal-alongside (length matches ∷ []) (s.rows ∷ []) (λ i. matches-sized i ∷ []));
          sizes = asked.sizes;
        }

    -- they lead to its end where they are no fewer than the cycle has
    steps-made :
        (mem : Memory) (n : ℕ) → cycle_steps z s ≤ n
        → steps_call s (first mem) n matches
        ≡ giving (accepted 0) (last_matches z s (lent mem)) (after_steps s (first mem) (replicate (cycle_steps z s) matches))
    unfolding steps_call last_matches entry_matches
    steps-made mem n enough =
        let t = parts.taken in
        let l = matches-sized in
        let at : At z s 0 (first mem) = record { sized = first-sized; cycle = sym opened-cycle } in
        let next : is_next s opening ≡ true = ap (is_next s) (sym opened-cycle) ∙ next-open z s t 0 partial (omega arith) in
        call-done (step_questions s (first mem) matches) matches (first mem) _
        (step-asked s t (first mem) first-sized matches ∙ simp (equal-alongside (length matches ∷ []) (s.rows ∷ []) (λ i. l i ∷ []), next))
        ∙ stepping-all z s t partial matches l (cycle_steps z s) n 0 (first mem) at (omega arith) enough matches l
        (λ low. absurd (omega arith))

    -- and so it is the whole cycle
    whole-made :
        (mem : Memory) → cycle_call s (state_of (lent mem) cycle) z matches ≡ steps_call s (first mem) most_steps matches
    unfolding cycle_call
    whole-made mem =
        call-done (cycle_questions s (lent no_memory) z matches) matches (state_of (lent mem) cycle) _ asked.none
        ∙ ap (λ st. giving (accepted 0) (last_matches z s (lent mem)) (after_steps s st (replicate (cycle_steps z s) matches))) (left mem)
        ∙ sym (steps-made mem most_steps (omega (arith, lookups-high z s parts.taken)))

pub start_lent-started-requires : goal.start_lent-started-requires
start_lent-started-requires c =
    let args = c.args in
    let mem : Memory = with_all args.cells.now args.lines.now args.counters.now args.flags.now args.totals.now no_memory in
    let passed = answer-taken (cycle_questions args.shape mem args.skip args.matches.now) args.shape c.check_run.ensures c.in-Ok.is in
    start-passes args.shape args.skip args.cells.now args.lines.now args.counters.now args.flags.now args.totals.now args.matches.now _ passed
    args.cycle

pub steps_lent-requires : goal.steps_lent-requires
steps_lent-requires c =
    let args = c.args in
    let mem : Memory = with_all args.cells.now args.lines.now args.counters.now args.flags.now args.totals.now no_memory in
    let passed = answer-taken (cycle_questions args.shape mem args.skip args.matches.now) args.shape c.check_run.ensures c.in-Ok.is in
    let start = c.start_lent-started in
    steps-pass args.shape args.skip args.cells.now args.lines.now args.counters.now args.flags.now args.totals.now args.matches.now _ passed
    args.cycle start.result start.new.counters start.new.flags start.new.totals start.ensures

-- refused
pub returns-in-Err : goal.returns-in-Err
unfolding cycle_call
returns-in-Err c =
    let args = c.args in
    let lent : Memory → Memory = λ mem. with_all args.cells.now args.lines.now args.counters.now args.flags.now args.totals.now mem in
    let questions : List Question = cycle_questions args.shape (lent no_memory) args.skip args.matches.now in
    λ mem. gives-refusal questions args.matches.now (lent mem) args.cycle _ _ c.in-Err.refusal
    (answer-refused questions args.shape c.check_run.ensures c.in-Err.is) c.refused.ensures

-- a whole cycle
pub returns-in-Ok : goal.returns-in-Ok
returns-in-Ok c =
    let args = c.args in
    let mem : Memory = with_all args.cells.now args.lines.now args.counters.now args.flags.now args.totals.now no_memory in
    let passed = answer-taken (cycle_questions args.shape mem args.skip args.matches.now) args.shape c.check_run.ensures c.in-Ok.is in
    let start = c.start_lent-started in
    λ mem. whole-made args.shape args.skip args.cells.now args.lines.now args.counters.now args.flags.now args.totals.now args.matches.now _ passed
    args.cycle start.result start.new.counters start.new.flags start.new.totals start.ensures mem
    ∙ c.steps_lent.ensures mem
