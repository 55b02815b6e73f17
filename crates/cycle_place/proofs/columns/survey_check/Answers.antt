-- `cycle_place::columns::survey_check` meets its contract: the sum so far is that of the check rows passed. Assumes nothing.
use native.Mathlib.Omega.{arith}
use Rattle.cycle_place.proofs.CheckRows.{rows-high, before-high}
use Rattle.cycle_place.proofs.columns.survey_check.Goals as goal

pub overflow_add-before : goal.overflow_add-before
overflow_add-before c =
    let few = c.requires.columns_lent.few in
    let l = c.loop-l.l in
    omega (arith, c.count_held-before.ensures, rows-high c.args.matrix.now few l, few l)

pub count_held-rank-requires : goal.count_held-rank-requires
count_held-rank-requires c =
    record { few = λ l. omega (arith, before-high c.args.matrix.now l c.args.column, c.requires.columns_lent.few l); check = omega arith }
