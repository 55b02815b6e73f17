-- `acam::matrix::fill_rules` meets its contract: ones for τ = 1, else the lightest eligible columns, of which there are enough.
-- Assumes nothing.
use mathlib.Core.Path.{◌≡◌, ◌∙◌}
use mathlib.Core.List.{List}
use Prim.Native.Nat.{ℕ}
use native.Mathlib.Omega.{arith}
use lib.ListN.{length, take, length-take}
use borrow.Author.Tests.{ne_eqb}
use Rattle.parity.specs.Lists.{keep}
use Rattle.parity.specs.Matrix.{column_order, eligible, rule_columns}
use Rattle.parity.proofs.Filled.{filled_from-enough}
use Rattle.acam.proofs.matrix.fill_rules.Goals as goal

-- τ = 2 or 3
pub returns : goal.returns
unfolding rule_columns
returns c =
    let args = c.args in
    let list : List ℕ = keep (eligible args.errors args.checks) column_order in
    let k = length args.part.now in
    let not-one = ne_eqb args.errors 1 c.if-errors-eq1.false in
    let enough : length (take k list) ≡ k = simp not-one at c.requires.enough in
    simp not-one (c.fill_lightest.ensures ∙ filled_from-enough list args.part.now (omega (arith, length-take k list)))
