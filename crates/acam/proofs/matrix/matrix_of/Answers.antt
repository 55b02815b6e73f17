-- `acam::matrix::matrix_of` meets its contract: the columns in front, and 0 in what is left. Assumes nothing.
use mathlib.Core.Path.{sym, ◌∙◌, ap}
use mathlib.Core.List.{◌++◌}
use lib.ListN.{drop}
use lib.Seq.{length-take-le}
use Rattle.parity.specs.Shape.{columns}
use Rattle.acam.specs.Matrices.{matrix_array}
use Rattle.acam.proofs.MatrixArray.{zeros, drop-replicate, wide, fits}
use Rattle.acam.proofs.matrix.matrix_of.Goals as goal

pub slice_bounds-fill_matrix-end : goal.slice_bounds-fill_matrix-end
slice_bounds-fill_matrix-end c = sym (length-take-le _ zeros (fits c.args.shape c.requires.taken c.args.checks c.requires.checks))

pub fill_matrix-requires : goal.fill_matrix-requires
fill_matrix-requires c =
    let pre = c.requires in
    let few = fits c.args.shape pre.taken c.args.checks pre.checks in
    record {
      taken = pre.taken;
      checks = pre.checks;
      columns = length-take-le _ zeros few ∙ wide c.args.shape pre.taken c.args.checks pre.checks;
    }

pub returns : goal.returns
unfolding matrix_array
returns c =
    let s = c.args.shape in
    let all = wide s c.requires.taken c.args.checks c.requires.checks in
    λ i. (c.fill_matrix.ensures i) ++ ((ap (λ n. drop n zeros) all ∙ drop-replicate (columns s) 255 0) i)
