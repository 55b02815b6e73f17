-- `acam::matrix::fill_lightest` meets its contract: what is written and what the weights to come would write make the filled part.
-- Assumes nothing.
use mathlib.Core.Path.{◌≡◌, sym, ◌∙◌, ap, ap₂}
use mathlib.Core.Bool.{Bool, cond}
use mathlib.Core.List.{List, ◌++◌, append-nil}
use Prim.Native.Nat.{ℕ, suc, ◌+◌, ◌-◌, ◌≤◌, ◌<◌}
use native.Mathlib.Nat.{add-sub_cancel_left}
use native.Mathlib.Numerals.{add-one}
use native.Mathlib.Omega.{arith}
use lib.ListN.{length, get_or, take, drop, length-drop, drop_of_length-le}
use borrow.Author.Rules.{part_to_end}
use borrow.Rule.Slice.PartMut.{put_mid, same_len_mid}
use Rattle.parity.specs.Lists.{keep, filled_from, tabulate}
use Rattle.parity.specs.Matrix.{column_order, eligible}
use Rattle.parity.proofs.ListLaws.{get_or-tabulate}
use Rattle.parity.proofs.ColumnOrder.{order_claim}
use Rattle.acam.specs.Matrices.{rule_weight}
use Rattle.acam.proofs.Blocks.{start, choice, count, start-end, count_fits, block-kept, block-length, goes, goes-next, goes-full, goes-ended}
use Rattle.acam.proofs.matrix.fill_lightest.Goals as goal

-- the block is as long as the weight has eligible columns
counted :
    (τ r w n : ℕ) (below : List ℕ) → w < 8 → below ≡ tabulate 8 (choice r)
    → n ≡ cond (rule_weight τ (w + 1)) (get_or below w 0) 0 → n ≡ count τ r w
counted τ r w n below h e is =
    is ∙ ap₂ (λ v n. cond (rule_weight τ v) n 0) (add-one w) (ap (λ l. get_or l w 0) e ∙ get_or-tabulate 8 (choice r) w 0 h)

-- the place of the next weight
next :
    (w place n : ℕ) (all : List ℕ) → w < 8 → all ≡ tabulate 8 (choice 8) → place ≡ start w → n ≡ get_or all w 0
    → place + n ≡ start (suc w)
next w place n all h e at is = ap₂ ◌+◌ at (is ∙ ap (λ l. get_or l w 0) e ∙ get_or-tabulate 8 (choice 8) w 0 h)

-- a list copied over a part from a place on
laid :
    (order part last : List ℕ) (place n found : ℕ)
    → last ≡ filled_from (take (place + n - place) (drop place order)) (take (length part - found) (drop found part))
    → put_mid found (length part - found) part last ≡ goes (take n (drop place order)) part found
laid order part last place n found e =
    let short : length (drop found part) ≤ length part - found = omega (arith, length-drop found part) in
    ap (λ l. take found part ++ l)
    (ap (λ l. last ++ l) (drop_of_length-le (drop found part) short) ∙ append-nil last ∙ e
    ∙ ap₂ (λ k l. filled_from (take k (drop place order)) l) (add-sub_cancel_left place n) (part_to_end part found))

-- with a weight's block in it the part will be the same
stepped :
    (τ r w place found n : ℕ) (below order part last : List ℕ) → r ≤ 8 → w < 8 → below ≡ tabulate 8 (choice r) → order ≡ column_order
    → n ≡ cond (rule_weight τ (w + 1)) (get_or below w 0) 0 → place ≡ start w → found ≤ length part
    → last ≡ filled_from (take (place + n - place) (drop place order)) (take (length part - found) (drop found part))
    → goes (keep (eligible τ r) (drop (start (suc w)) column_order)) (put_mid found (length part - found) part last) (found + n)
    ≡ goes (keep (eligible τ r) (drop place column_order)) part found
stepped τ r w place found n below order part last rows weights listed is counts at room copied =
    let many = counted τ r w n below weights listed counts in
    let p : ℕ → Bool = eligible τ r in
    let rest : List ℕ = keep p (drop (start (suc w)) column_order) in
    let block : List ℕ = take (count τ r w) (drop (start w) column_order) in
    let same : put_mid found (length part - found) part last ≡ goes block part found
    = laid order part last place n found copied ∙ (λ i. goes (take (many i) (drop (at i) (is i))) part found) in
    let long : n ≡ length block = many ∙ sym (block-length τ r w rows weights) in
    ap₂ (λ l m. goes rest l (found + m)) same long
    ∙ goes-next rest part found block room
    ∙ ap (λ cs. goes cs part found) (sym (block-kept τ r w rows weights))
    ∙ ap (λ m. goes (keep p (drop m column_order)) part found) (sym at)

pub slice_bounds-copy-end : goal.slice_bounds-copy-end
slice_bounds-copy-end c =
    let τ = c.args.errors in
    let r = c.args.checks in
    let at = c.loop-w in
    let many = counted τ r at.w c.count_rules-count.result c.choices-below.result (omega arith) c.choices-below.ensures c.count_rules-count.ensures in
    omega (arith, many, count_fits τ r at.w (omega arith) (omega arith), ap length c.column_order-order.ensures, order_claim.sized)

-- the part is full
pub returns-then-part-found : goal.returns-then-part-found
returns-then-part-found c =
    let τ = c.args.errors in
    let r = c.args.checks in
    let at = c.loop-w in
    let n = c.count_rules-count.result in
    let step = stepped τ r at.w at.place at.found n c.choices-below.result c.column_order-order.result at.part c.copy.new.to (omega arith) (omega arith)
    c.choices-below.ensures c.column_order-order.ensures c.count_rules-count.ensures at.invariant.0 at.invariant.1 c.copy.ensures in
    let written = put_mid at.found (length at.part - at.found) at.part c.copy.new.to in
    sym (goes-full (keep (eligible τ r) (drop (start (suc at.w)) column_order)) written (at.found + n) (omega arith)) ∙ step ∙ at.invariant.3

pub loop-w-preserved : goal.loop-w-preserved
loop-w-preserved c =
    let τ = c.args.errors in
    let r = c.args.checks in
    let at = c.loop-w in
    let n = c.count_rules-count.result in
    let step = stepped τ r at.w at.place at.found n c.choices-below.result c.column_order-order.result at.part c.copy.new.to (omega arith) (omega arith)
    c.choices-below.ensures c.column_order-order.ensures c.count_rules-count.ensures at.invariant.0 at.invariant.1 c.copy.ensures in
    let written = put_mid at.found (length at.part - at.found) at.part c.copy.new.to in
    let sized : length written ≡ length at.part = same_len_mid at.found (length at.part - at.found) at.part c.copy.new.to c.copy.auto.to in
    let place = next at.w at.place c.from-place.result c.choices-all.result (omega arith) c.choices-all.ensures at.invariant.0 c.from-place.ensures in (
      place ∙ ap start (sym (add-one at.w)),
      omega (arith, sized),
      sized ∙ at.invariant.2,
      ap (λ m. goes (keep (eligible τ r) (drop m column_order)) written (at.found + n)) place ∙ step ∙ at.invariant.3,
    )

-- all weights are passed
pub returns : goal.returns
returns c =
    let at = c.loop-w in
    let args = c.args in
    let last : at.w ≡ 8 = omega arith in
    let end : length column_order ≤ at.place = omega (arith, order_claim.sized, at.invariant.0 ∙ ap start last ∙ start-end) in
    sym
    (ap (λ cs. goes (keep (eligible args.errors args.checks) cs) at.part at.found) (drop_of_length-le column_order end)
    ∙ goes-ended at.part at.found)
    ∙ at.invariant.3
