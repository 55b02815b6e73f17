-- `paper::wider` meets its contract: a shape that is taken has the sizes in hand, with at most 8 check columns; 50 columns are lent. Assumes nothing.
use mathlib.Core.Path.{sym, ap}
use native.Mathlib.Omega.{arith}
use lib.Seq.{length-take-le}
use Rattle.parity.specs.Questions.{shape_refusal}
use Rattle.parity.proofs.Redundancy.{redundancy_claim}
use Rattle.shape.proofs.Refusals.{shape-yes}
use Rattle.paper.proofs.wider.Goals as goal

pub slice_bounds-count_ones-end : goal.slice_bounds-count_ones-end
slice_bounds-count_ones-end g c = sym (length-take-le 50 c.matrix_of-matrix.result (omega arith))

pub count_ones-requires : goal.count_ones-requires
count_ones-requires g c = omega (arith, length-take-le 50 c.matrix_of-matrix.result (omega arith))

pub overflow_add-count_ones : goal.overflow_add-count_ones
unfolding shape_refusal
overflow_add-count_ones g c =
    let s = c.example-shape.result in
    let passed = shape-yes s c.check_shape.ensures c.in-Ok.is in
    omega (arith, (redundancy_claim s passed.none).high, ap (λ z. z.checks) passed.sizes, c.count_ones.ensures)
