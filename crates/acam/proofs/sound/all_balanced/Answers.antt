-- `acam::sound::all_balanced` meets its contract: the test has passed at each number below l, and fails where it fails at l.
-- Assumes nothing.
use mathlib.Core.Path.{sym, ◌∙◌}
use mathlib.Core.Bool.{false, not-eq-not}
use native.Mathlib.Omega.{arith}
use lib.ListN.{get_or}
use borrow.Author.Tests.{eqb-true}
use Rattle.parity.proofs.ListLaws.{every_to-at}
use Rattle.acam.proofs.Missing.{missing-none}
use Rattle.acam.proofs.sound.all_balanced.Invariants.{balanced}
use Rattle.acam.proofs.sound.all_balanced.Goals as goal

-- a sum is not 0
pub returns-then-missing-ne0 : goal.returns-then-missing-ne0
returns-then-missing-ne0 c =
    let args = c.args in
    let loop = c.loop-l in
    sym ((not-eq-not {b = false}).0
    (λ all. c.if-missing-ne0.true
    (c.missing.ensures
    ∙ missing-none args.radix (get_or args.sums loop.l 0) (omega arith)
    (eqb-true _ 0 (every_to-at args.checks (balanced args.sums args.radix) all loop.l (omega arith))))))
