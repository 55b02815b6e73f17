-- `shape::byte::count_differences` meets its contract: of the first i places those that differ are counted. Assumes nothing.
use mathlib.Core.Path.{ap}
use mathlib.Core.Bool.{true, false}
use native.Mathlib.Numerals.{add-one}
use native.Mathlib.Omega.{arith}
use lib.ListN.{take}
use borrow.Author.Tests.{eq-eqb, ne_eqb}
use Rattle.parity.specs.Lists.{differences}
use Rattle.parity.proofs.ListLaws.{differences-next}
use Rattle.shape.proofs.byte.count_differences.Goals as goal

pub loop-i-preserved : goal.loop-i-preserved
loop-i-preserved c =
    let one = c.args.one.now in
    let other = c.args.other.now in
    let shown = ap (λ n. differences (take n one) (take n other)) (add-one c.loop-i.i) in
    let next = differences-next one other c.loop-i.i (omega arith) (omega arith) in
    let more = next true in
    let same = next false in
    grind (arith, eq-eqb, ne_eqb)
