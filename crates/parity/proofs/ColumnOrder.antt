-- The column order: 255 entries, all nonzero bytes, each once and in the document's order. Assumes nothing.
use mathlib.Core.Path.{◌≡◌, refl, subst}
use mathlib.Core.Logic.{inl, inr}
use mathlib.Core.Bool.{Bool, true, false, cond, ◌&&◌}
use Prim.Native.Nat.{ℕ, zero, suc, pred, ◌≤◌, ◌<◌}
use native.Mathlib.Omega.{arith}
use lib.Dec.{eqb, leb, ltb}
use lib.ListN.{length}
use borrow.Author.Tests.{eqb-true, eq-eqb, ltb-true}
use Rattle.parity.specs.Lists.{tabulate, every, every_to}
use Rattle.parity.specs.Shape.{digit}
use Rattle.parity.specs.Matrix.{weight, of_weight, column_order}
use Rattle.parity.specs.Claims.{Among, Precedes, OrderClaim}
use Rattle.parity.proofs.Taken.{range-true}
use Rattle.parity.proofs.ListLaws.{every-at, every_to-at, chained, chained-pairs, among-tabulate, among-keep, among-joined}

-- Precedes as a test
precedes : ℕ → ℕ → Bool
precedes c d = cond (eqb (weight c) (weight d)) (ltb c d) (ltb (weight c) (weight d))

precedes-true : (c d : ℕ) → precedes c d ≡ true → Precedes c d
unfolding precedes
precedes-true c d = go (eqb (weight c) (weight d)) refl
  where
    go : (b : Bool) → eqb (weight c) (weight d) ≡ b → cond b (ltb c d) (ltb (weight c) (weight d)) ≡ true → Precedes c d
    go true q e = inr (eqb-true _ _ q, ltb-true c d e)
    go false q e = inl (ltb-true _ _ e)

precedes-trans : (c d e : ℕ) → Precedes c d → Precedes d e → Precedes c e
precedes-trans c d e (inl h) (inl k) = inl (omega arith)
precedes-trans c d e (inl h) (inr k) = inl (omega arith)
precedes-trans c d e (inr h) (inl k) = inl (omega arith)
precedes-trans c d e (inr h) (inr k) = inr (omega arith)

-- the order as computed: its length, its bytes, and each entry before the next
order-sized : length column_order ≡ 255
unfolding column_order of_weight weight digit
order-sized = refl

order-bytes : every (λ c. leb 1 c && ltb c 256) column_order ≡ true
unfolding column_order of_weight weight digit
order-bytes = refl

order-chained : chained precedes column_order ≡ true
unfolding precedes column_order of_weight weight digit
order-chained = refl

-- a nonzero byte has from 1 to 8 ones
weighed : ℕ → Bool
weighed c = leb 1 (weight (suc c)) && leb (weight (suc c)) 8

bytes-weighed : every_to 255 weighed ≡ true
unfolding weighed weight digit
bytes-weighed = refl

byte-weight : (c : ℕ) → c < 255 → (1 ≤ weight (suc c)) × (weight (suc c) ≤ 8)
unfolding weighed
byte-weight c h = range-true _ _ _ _ (every_to-at 255 weighed bytes-weighed c h)

-- so it stands among those of its weight, and they among the columns
of-weight : (c : ℕ) → c < 255 → Among (suc c) (of_weight (weight (suc c)))
unfolding of_weight
of-weight c h =
    let w : ℕ = weight (suc c) in
    among-keep (suc c) (λ d. eqb (weight d) w) (tabulate 255 suc) (eq-eqb w w refl) (among-tabulate 255 suc c h)

complete : (c : ℕ) → 0 < c → c < 256 → Among c column_order
unfolding column_order
complete zero low high = absurd (omega arith)
complete (suc c) low high =
    let h : c < 255 = omega arith in
    let ones = byte-weight c h in
    let w : ℕ = pred (weight (suc c)) in
    let e : weight (suc c) ≡ suc w = omega arith in
    among-joined (suc c) 8 (λ n. of_weight (suc n)) w (omega arith) (subst (λ (n : ℕ). Among (suc c) (of_weight n)) e (of-weight c h))

pub order_claim : OrderClaim
order_claim =
    record {
      sized = order-sized;
      bytes = λ i h. range-true _ _ _ _ (every-at (λ c. leb 1 c && ltb c 256) column_order 0 order-bytes i (omega (arith, order-sized)));
      complete = complete;
      ordered = chained-pairs Precedes precedes-trans precedes precedes-true column_order order-chained;
    }
