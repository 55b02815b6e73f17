-- `cycle_sizes::sizes` meets its contract: `check_sizes` asks, and the sizes are put together. Assumes nothing.
use mathlib.Core.Path.{sym, ap, ◌∙◌}
use Rattle.shape.specs.Answers.{accepted, answering}
use Rattle.shape.proofs.Refusals.{answer-taken, answer-refused, handed, refuses}
use Rattle.cycle_sizes.specs.Sizes.{cycle_sizes, no_cycle_sizes, sizes_questions, sizes_call}
use Rattle.cycle_sizes.proofs.sizes.Goals as goal

-- refused
pub returns-in_err-sizes : goal.returns-in_err-sizes
unfolding sizes_call
returns-in_err-sizes c =
    let a = c.args in
    let no = answer-refused (sizes_questions a.shape a.skip) a.shape c.check_sizes.ensures c.in_err-sizes.was in
    sym (handed no_cycle_sizes (λ sizes. sizes) c.from_residual.result _ c.from_residual.ensures.1 (refuses no_cycle_sizes _ _ no.0))

-- taken
pub returns : goal.returns
unfolding sizes_call
returns c =
    let a = c.args in
    let passed = answer-taken (sizes_questions a.shape a.skip) a.shape c.check_sizes.ensures c.in_ok-sizes.was in
    ap (λ n. answering no_cycle_sizes n (cycle_sizes a.skip a.shape)) passed.none
    ∙ sym (λ i. accepted (record {
      sizes = passed.sizes i;
      blocks = c.block_count.ensures i;
      steps = c.count_steps.ensures i;
    }))
