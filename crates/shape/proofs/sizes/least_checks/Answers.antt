-- `shape::sizes::least_checks` meets its contract: what is left of the search gives the whole search's answer. Assumes nothing.
use mathlib.Core.Path.{◌≡◌, refl, sym, ap, ◌∙◌}
use native.Mathlib.Omega.{arith}
use lib.Dec.{leb}
use borrow.Author.Tests.{le-leb, lt-leb}
use Rattle.parity.specs.Shape.{largest, redundancy}
use Rattle.shape.proofs.Search.{searched, search-found, search-missed, search-ended}
use Rattle.shape.proofs.sizes.least_checks.Goals as goal

pub loop-checks-init : goal.loop-checks-init
unfolding redundancy
loop-checks-init c = refl

pub loop-checks-preserved : goal.loop-checks-preserved
loop-checks-preserved c =
    let args = c.args in
    let r = c.loop-checks.checks in
    sym
    (search-missed (λ r. leb args.width (largest args.errors r)) 9 r (omega arith)
    (lt-leb args.width (largest args.errors r) (omega (arith, c.carried.ensures))))
    ∙ c.loop-checks.invariant

pub returns-then-width-carried : goal.returns-then-width-carried
returns-then-width-carried c =
    let args = c.args in
    let r = c.loop-checks.checks in
    sym (search-found (λ r. leb args.width (largest args.errors r)) 9 r (omega arith)
    (le-leb args.width (largest args.errors r) (omega (arith, c.carried.ensures))))
    ∙ c.loop-checks.invariant

pub returns : goal.returns
returns c =
    let args = c.args in
    let past : c.loop-checks.checks ≡ 9 = omega arith in
    sym (ap (searched (λ r. leb args.width (largest args.errors r)) 9) past ∙ search-ended (λ r. leb args.width (largest args.errors r)) 9)
    ∙ c.loop-checks.invariant
