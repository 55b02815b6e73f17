-- `panel::sum_totals` meets its contract: one total more is added up, and the first that isn't 0 is further on as long as the sum is 0. Assumes nothing.
use mathlib.Core.Path.{refl}
use Prim.Native.Nat.{◌<◌}
use native.Mathlib.Omega.{arith}
use lib.ListN.{length}
use Rattle.std.proofs.lemmas.Grind.{common_steps}
use Rattle.panel.specs.Panel.{first_nonzero}
use Rattle.panel.proofs.FirstFlags.{sum-next, first-further, first-stays}
use Rattle.panel.proofs.sum_totals.Goals as goal

pub loop-total-init : goal.loop-total-init
unfolding first_nonzero
loop-total-init c = record { adds = refl; low = omega arith; finds = refl; few = omega arith }

pub loop-total-preserved : goal.loop-total-preserved
loop-total-preserved c =
    let totals = c.args.totals.now in
    let i = c.loop-total.total-index in
    let inside : i < length totals = omega arith in
    let adds = sum-next totals i inside in
    let byte = c.type_inv.totals i in
    record {
      adds = omega (arith, adds);
      low = omega (arith, byte);
      finds = grind (arith, common_steps, adds, first-further totals i inside, first-stays totals i inside);
      few = grind (arith, common_steps);
    }
