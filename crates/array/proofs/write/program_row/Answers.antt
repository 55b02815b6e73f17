-- `array::write::program_row` meets its contract: the levels fill the rule cells, and the encoder writes the check cells. Assumes nothing.
use mathlib.Core.Path.{sym, ap, ◌∙◌}
use mathlib.Core.List.{◌++◌}
use Prim.Native.Nat.{◌≤◌}
use native.Mathlib.Omega.{arith}
use lib.ListN.{length, take, drop}
use lib.Seq.{length-take-le, take_at}
use Rattle.parity.specs.Shape.{columns}
use Rattle.parity.specs.Codeword.{encode}
use Rattle.parity.proofs.Filled.{filled_from-whole}
use Rattle.array.proofs.write.program_row.Goals as goal

pub slice_bounds-copy-end : goal.slice_bounds-copy-end
unfolding columns
slice_bounds-copy-end c = omega arith

pub slice_bounds-copy-end-2 : goal.slice_bounds-copy-end-2
unfolding columns
slice_bounds-copy-end-2 c =
    let within : c.args.shape.width ≤ length c.args.row.now = omega arith in
    sym (length-take-le c.args.shape.width c.args.row.now within)

-- the row is written
pub returns : goal.returns
unfolding columns
returns c =
    let s = c.args.shape in
    let row = c.args.row.now in
    let given = c.args.given.now in
    let within : s.width ≤ length row = omega arith in
    let front = length-take-le s.width row within in
    let whole = c.copy.ensures ∙ filled_from-whole given (take s.width row) (c.requires.levels ∙ sym front) in
    c.write_checks.ensures
    ∙ ap (encode s) (ap (λ rule. take s.width (rule ++ drop s.width row)) whole ∙ take_at given (drop s.width row) s.width c.requires.levels)
