-- `cycle_passes::rows::reduce_rows` meets its contract: counters that are all below ρ are their own remainders; of others those that are
-- passed are remainders. Assumes nothing.
use mathlib.Core.Path.{◌≡◌, refl, sym}
use mathlib.Core.Bool.{true}
use mathlib.Core.List.{List}
use Prim.Native.Nat.{ℕ}
use native.Mathlib.Nat.{mod-eq_of_lt}
use native.Mathlib.Omega.{arith}
use lib.Dec.{ltb}
use borrow.Author.Tests.{ltb-true}
use Rattle.parity.specs.Lists.{every}
use Rattle.parity.proofs.ListLaws.{every-at}
use Rattle.cycle_passes.specs.Passes.{reduced_bytes}
use Rattle.cycle_passes.proofs.Pass.{pass-here, pass-next, tabulated}
use Rattle.cycle_passes.proofs.rows.reduce_rows.Goals as goal

-- counters below ρ are their own remainders
own : (ρ : ℕ) (counters : List ℕ) → every (λ v. ltb v ρ) counters ≡ true → counters ≡ reduced_bytes ρ counters
own ρ counters all = tabulated refl (λ i l. sym (mod-eq_of_lt (ltb-true _ _ (every-at (λ v. ltb v ρ) counters 0 all i l))))

pub returns-then-all_below : goal.returns-then-all_below
returns-then-all_below c = own c.args.radix c.args.counters.now (grind arith)

pub loop-counter-preserved : goal.loop-counter-preserved
loop-counter-preserved c =
    let loop = c.loop-counter in
    let here = pass-here loop.invariant in
    pass-next loop.invariant refl (grind arith) (omega arith)
