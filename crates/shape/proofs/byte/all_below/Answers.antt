-- `shape::byte::all_below` meets its contract: the largest byte is below the bound exactly where all are. Assumes nothing.
use mathlib.Core.Path.{◌≡◌, refl, sym, ◌∙◌, ap}
use mathlib.Core.Bool.{◌&&◌}
use mathlib.Core.List.{List, [], ◌∷◌}
use Prim.Native.Nat.{ℕ, zero, suc}
use native.Mathlib.Nat.{zero-lt-suc}
use native.Mathlib.Omega.{arith}
use lib.Dec.{ltb}
use lib.ListN.{length}
use borrow.Author.Tests.{le-ltb}
use Rattle.parity.specs.Lists.{every, greatest}
use Rattle.parity.proofs.Greatest.{greatest-below}
use Rattle.shape.proofs.byte.all_below.Goals as goal

some : (bound : ℕ) (bytes : List ℕ) → ¬ (length bytes ≡ 0) → ltb (greatest bytes) bound ≡ every (λ v. ltb v bound) bytes
some bound [] h = absurd (h refl)
some zero (v ∷ vs) h = le-ltb (greatest (v ∷ vs)) 0 (omega arith) ∙ sym (ap (λ t. t && every (λ v. ltb v 0) vs) (le-ltb v 0 (omega arith)))
some (suc bound) (v ∷ vs) h = sym (greatest-below (suc bound) (zero-lt-suc bound) (v ∷ vs))

-- the largest decides
pub returns : goal.returns
returns c =
    let args = c.args in
    ap (λ n. ltb n args.bound) (c.from.ensures ∙ c.largest.ensures) ∙ some args.bound args.bytes.now c.if-bytes-eq0.false
