-- `cycle_steps::steps_lent` meets its contract: the check matrix is made in an array of zeros, and `steps_at` is lent it with
-- some of the zeros. Assumes nothing.
use mathlib.Core.Path.{ap, ◌∙◌}
use Prim.Native.Nat.{◌-◌}
use lib.ListN.{length}
use Rattle.acam.proofs.MatrixArray.{part-few, part-sized, part-padded}
use Rattle.array_memory.specs.Memory.{with_all, no_memory}
use Rattle.cycle.proofs.Located.{lent-taken}
use Rattle.cycle_steps.proofs.steps_lent.Goals as goal

pub padded_length-padded-requires : goal.padded_length-padded-requires
padded_length-padded-requires c =
    let args = c.args in
    let lent = with_all args.cells.now args.lines.now args.counters.now args.flags.now args.totals.now no_memory in
    let taken = lent-taken args.shape lent (length args.matches.now) c.requires.none in
    part-few args.shape taken _ (ap (λ z. z.columns) c.requires.sizes)

pub fill_matrix-requires : goal.fill_matrix-requires
fill_matrix-requires c =
    let args = c.args in
    let lent = with_all args.cells.now args.lines.now args.counters.now args.flags.now args.totals.now no_memory in
    let taken = lent-taken args.shape lent (length args.matches.now) c.requires.none in
    let wide = ap (λ z. z.columns) c.requires.sizes in
    record {
      taken = taken;
      checks = ap (λ z. z.checks) c.requires.sizes;
      columns = part-sized args.shape taken _ wide ∙ wide;
    }

pub steps_at-requires-clause-padded_lent : goal.steps_at-requires-clause-padded_lent
steps_at-requires-clause-padded_lent c =
    let args = c.args in
    let lent = with_all args.cells.now args.lines.now args.counters.now args.flags.now args.totals.now no_memory in
    let taken = lent-taken args.shape lent (length args.matches.now) c.requires.none in
    let wide = ap (λ z. z.columns) c.requires.sizes in
    let bound = c.padded_length-padded in
    record {
      taken = taken;
      checks = ap (λ z. z.checks) c.requires.sizes;
      columns = wide;
      rest = bound.result - args.sizes.columns;
      padded = part-padded args.shape taken _ wide _ c.fill_matrix.ensures _ bound.ensures;
    }
