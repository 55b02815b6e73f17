-- `cycle_sizes::count_steps` meets its contract: q / ρ^z is a power of ρ, and W the ones of the columns. Assumes nothing.
use mathlib.Core.Path.{◌≡◌, sym, ap, ◌∙◌}
use mathlib.Core.List.{List, [], ◌∷◌}
use Prim.Native.Nat.{ℕ, ◌-◌, ◌*◌, ◌^◌, ◌≤◌, ◌<◌}
use native.Mathlib.Nat.{one-mul, one-le-pow}
use native.Mathlib.Omega.{arith}
use lib.ListN.{length, take}
use lib.Seq.{length-take-le}
use Rattle.parity.specs.Shape.{columns}
use Rattle.parity.specs.Lists.{sum_over}
use Rattle.parity.specs.Matrix.{weight, matrix, lookups}
use Rattle.parity.specs.Questions.{first_no, Taken, skip_question}
use Rattle.parity.specs.declared.Shape.{Shape}
use Rattle.parity.specs.Claims.{most_lookups}
use Rattle.parity.proofs.Longest.{lookups-high}
use Rattle.shape.specs.Shapes.{Passed}
use Rattle.shape.specs.declared.sizes.Sizes.{Sizes}
use Rattle.shape.proofs.Refusals.{rest-taken}
use Rattle.parity.proofs.Sizes.{columns-high}
use Rattle.parity.proofs.MatrixOnes.{matrix_ones-weights}
use Rattle.parity.proofs.Taken.{limits, skip_below}
use Rattle.acam.specs.Matrices.{matrix_array}
use Rattle.acam.proofs.MatrixArray.{array-sized, array-matrix}
use Rattle.schedule.specs.Index.{span}
use Rattle.cycle_place.proofs.Spans.{span-as, span-high}
use Rattle.cycle_sizes.specs.Sizes.{sizes_questions}
use Rattle.cycle_sizes.proofs.count_steps.Goals as goal

-- ---- what is given
module _ (s : Shape) (z : ℕ) (sizes : Sizes) (p : Passed (sizes_questions s z) s sizes) where
  abbrev asked : Taken s × (first_no (skip_question s z ∷ []) ≡ 0)
  asked = rest-taken s (skip_question s z ∷ []) p.none

  taken : Taken s
  taken = asked.0

  partial : z < s.digits
  partial = skip_below s z asked.1

  wide : sizes.columns ≡ columns s
  wide = ap (λ z. z.columns) p.sizes

  -- the columns are those of the check matrix
  module _ (made : List ℕ) (e : made ≡ matrix_array s) where
    within : sizes.columns ≤ length made
    within = omega (arith, ap length e ∙ array-sized s taken, wide, columns-high s taken)

    sized : length (take sizes.columns made) ≡ sizes.columns
    sized = length-take-le _ _ within

    read : take sizes.columns made ≡ matrix s
    read = (λ i. take (wide i) (e i)) ∙ array-matrix s taken

    -- all of them
    module _ (power ones : ℕ) (raised : power ≡ 1 * s.radix ^ (s.digits - z)) (summed : ones ≡ sum_over (take sizes.columns made) weight) where
      spans : power ≡ span s z
      spans = raised ∙ one-mul _ ∙ sym (span-as s taken z (omega (arith, partial)))

      counted : (power - 1) * ones ≡ lookups z s
      unfolding lookups span
      counted =
          let ones = summed ∙ ap (λ cs. sum_over cs weight) read ∙ sym (matrix_ones-weights s taken) in
          λ i. (spans i - 1) * ones i

      high : (power - 1) * ones ≤ most_lookups
      high = omega (arith, counted, lookups-high z s taken)

pub matrix_of-matrix-requires : goal.matrix_of-matrix-requires
matrix_of-matrix-requires c =
    record { taken = taken c.args.shape c.args.skip c.args.sizes c.requires; checks = ap (λ z. z.checks) c.requires.sizes }

pub scale-span-requires-clause-exponent_bound : goal.scale-span-requires-clause-exponent_bound
scale-span-requires-clause-exponent_bound c =
    let s = c.args.shape in
    let z = c.args.skip in
    let t = taken s z c.args.sizes c.requires in
    let below = partial s z c.args.sizes c.requires in
    omega (arith, span-as s t z (omega (arith, below)), span-high s t z)

pub overflow_sub-result : goal.overflow_sub-result
overflow_sub-result c =
    let s = c.args.shape in
    let t = taken s c.args.skip c.args.sizes c.requires in
    omega (arith, c.scale-span.ensures, one-le-pow (s.digits - c.args.skip) s.radix (omega (arith, (limits s t).radix_low)))

pub slice_bounds-matrix-end : goal.slice_bounds-matrix-end
slice_bounds-matrix-end c = within c.args.shape c.args.skip c.args.sizes c.requires c.matrix_of-matrix.result c.matrix_of-matrix.ensures

pub slice_bounds-count_ones-end : goal.slice_bounds-count_ones-end
slice_bounds-count_ones-end c =
    sym (sized c.args.shape c.args.skip c.args.sizes c.requires c.matrix_of-matrix.result c.matrix_of-matrix.ensures)

pub overflow_mul-result : goal.overflow_mul-result
overflow_mul-result c =
    omega (
      arith,
      high c.args.shape c.args.skip c.args.sizes c.requires c.matrix_of-matrix.result c.matrix_of-matrix.ensures c.scale-span.result c.count_ones.result
          c.scale-span.ensures c.count_ones.ensures.counted,
    )

pub overflow_add-result : goal.overflow_add-result
overflow_add-result c =
    omega (
      arith,
      high c.args.shape c.args.skip c.args.sizes c.requires c.matrix_of-matrix.result c.matrix_of-matrix.ensures c.scale-span.result c.count_ones.result
          c.scale-span.ensures c.count_ones.ensures.counted,
    )

pub returns : goal.returns
returns c =
    omega (
      arith,
      counted c.args.shape c.args.skip c.args.sizes c.requires c.matrix_of-matrix.result c.matrix_of-matrix.ensures c.scale-span.result c.count_ones.result
          c.scale-span.ensures c.count_ones.ensures.counted,
    )
