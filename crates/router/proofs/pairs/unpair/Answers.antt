-- `router::pairs::unpair` meets its contract: a turn writes one place more of both buffers. Assumes nothing.
use mathlib.Core.Path.{◌≡◌, ap, ap₂, ◌∙◌}
use mathlib.Core.List.{List}
use Prim.Native.Nat.{ℕ, suc, ◌+◌, ◌-◌, ◌*◌, ◌<◌}
use native.Mathlib.Omega.{arith}
use lib.ListN.{length, get_or, set}
use Rattle.parity.proofs.Filled.{filled, filled_next}
use Rattle.router.proofs.pairs.unpair.Invariants.{low, high}
use Rattle.router.proofs.pairs.unpair.Goals as goal

-- a place more of a buffer
stored :
    (f : ℕ → ℕ) (l now : List ℕ) (i byte : ℕ) → i < length l → now ≡ filled f l i → byte ≡ f i → set now i byte ≡ filled f l (i + 1)
stored f l now i byte h is e = ap₂ (λ now byte. set now i byte) is e ∙ filled_next f l i h

pub loop-i-preserved : goal.loop-i-preserved
loop-i-preserved c =
    let turn = c.loop-i in
    let args = c.args in
    let pairs = args.pairs.now in
    let odd : turn.i + turn.i + 1 ≡ suc (2 * turn.i) = omega arith in
    let even : turn.i + turn.i ≡ 2 * turn.i = omega arith in (
      stored (low args.top pairs) args.lows.now turn.lows turn.i _ (omega arith) turn.invariant.0
          (c.saturating_sub.ensures ∙ ap (λ j. args.top - get_or pairs j 0) odd),
      stored (high pairs) args.highs.now turn.highs turn.i _ (omega arith) turn.invariant.1 (ap (λ j. get_or pairs j 0) even),
    )
