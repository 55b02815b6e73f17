-- `shape::sizes::capped_power` meets its contract: the running power is ρ^i and at most 256; past 256 the whole power is past it too.
-- Assumes nothing.
use mathlib.Core.Path.{◌≡◌, sym, ◌∙◌, ap}
use mathlib.Core.Bool.{cond}
use Prim.Native.Nat.{suc, ◌*◌, ◌^◌, ◌≤◌}
use native.Mathlib.Nat.{pow-suc, pow-le-pow_right}
use native.Mathlib.Omega.{arith}
use borrow.Author.Tests.{lt-leb}
use Rattle.shape.proofs.sizes.capped_power.Goals as goal

-- above the limit
pub returns-then-power-gt-MAX_LEVELS : goal.returns-then-power-gt-MAX_LEVELS
returns-then-power-gt-MAX_LEVELS c =
    let ρ = c.args.radix in
    let b = c.args.digits in
    let i = c.loop.counter in
    let next : c.loop.power * ρ ≡ ρ ^ suc i
    = ap (λ x. x * ρ) c.loop.invariant.0 ∙ sym (pow-suc ρ i) in
    let more : ρ ^ suc i ≤ ρ ^ b = pow-le-pow_right (omega arith) (omega arith) in
    sym (ap (λ t. cond t (ρ ^ b) 257) (lt-leb (ρ ^ b) 256 (omega arith)))
