-- `paper::naive_reads` meets its contract: m × k of a shape that is taken is far below what a number holds. Assumes nothing.
use native.Mathlib.Nat.{le_trans, mul-le-mul}
use native.Mathlib.Omega.{arith}
use Rattle.parity.specs.Questions.{shape_refusal}
use Rattle.parity.proofs.Taken.{limits}
use Rattle.parity.proofs.Redundancy.{limit-high}
use Rattle.shape.proofs.Refusals.{shape-yes}
use Rattle.paper.proofs.naive_reads.Goals as goal

pub overflow_mul-shape : goal.overflow_mul-shape
unfolding shape_refusal
overflow_mul-shape g c =
    let s = c.args.shape in
    let limit = limits s (shape-yes s c.check_shape.ensures c.in-Ok.is).none in
    let high = limit-high s.errors limit.errors_low limit.errors_high in
    omega (arith, mul-le-mul limit.rows_high (le_trans limit.width_high high))
