-- The columns of one weight stand together in the column order, and the eligible ones first: block by block, they are the eligible columns.
-- A buffer filled with one block after the other is filled with all of them. Assumes nothing.
use mathlib.Core.Path.{◌≡◌, refl, sym, ◌∙◌, ap, ap₂}
use mathlib.Core.Bool.{Bool, true, false, cond, ◌&&◌}
use mathlib.Core.List.{List, [], ◌∷◌, ◌++◌, append-nil, append_assoc}
use Prim.Native.Nat.{ℕ, suc, ◌+◌, ◌%◌, ◌^◌, ◌≤◌, ◌<◌}
use native.Mathlib.Omega.{arith}
use lib.Dec.{eqb, leb, ltb}
use lib.ListN.{length, take, drop, length-drop, take-append-drop, drop_of_length-le}
use lib.Seq.{take_all, length-take-le, take-append-add, drop-append-add, drop-drop}
use borrow.Author.Tests.{eqb-true, leb-true}
use Rattle.parity.specs.Lists.{keep, sum_to, every_to, filled_from, differences}
use Rattle.parity.specs.Shape.{digit}
use Rattle.parity.specs.Matrix.{weight, of_weight, column_order, eligible}
use Rattle.parity.proofs.ListLaws.{keep_append, every_to-at, differences-zero}
use Rattle.parity.proofs.ColumnOrder.{order_claim}
use Rattle.acam.specs.Matrices.{choose, rule_weight}

-- the columns of weight w + 1 below 2^r, and the place of the first one of that weight
abbrev pub choice : ℕ → ℕ → ℕ
choice r w = choose r (suc w)

abbrev pub start : ℕ → ℕ
start w = sum_to w (choice 8)

-- the columns of weight w + 1 that are eligible: all those below 2^r, or none
abbrev pub count : ℕ → ℕ → ℕ → ℕ
count τ r w = cond (rule_weight τ (suc w)) (choice r w) 0

-- `rule_weight` and `eligible` ask of τ only whether it is 2
abbrev heavy : Bool → ℕ → Bool
heavy two w = cond two (leb 2 w) (leb 3 w && eqb (w % 2) 1)

-- of the columns of weight w + 1 the eligible ones are the first, for each r up to 8 and each w ..
kept_test : List ℕ → Bool → ℕ → ℕ → Bool
kept_test cs two r w =
    eqb
    (differences
    (keep (λ c. ltb c (2 ^ r) && heavy two (weight c)) (take (choice 8 w) (drop (start w) cs)))
    (take (cond (heavy two (suc w)) (choice r w) 0) (drop (start w) cs)))
    0

kept-tests : List ℕ → Bool → ℕ → Bool
kept-tests cs two r = every_to 8 (kept_test cs two r)

kept-pass : (two : Bool) → every_to 9 (kept-tests column_order two) ≡ true
unfolding kept-tests kept_test choose column_order of_weight weight digit
kept-pass true = refl
kept-pass false = refl

-- .. and all are within the order, whose end is that of the last weight
fits-test : ℕ → ℕ → Bool
fits-test r w = leb (start w + choice r w) 255

fits-tests : ℕ → Bool
fits-tests r = every_to 8 (fits-test r)

fits-pass : every_to 9 fits-tests ≡ true
unfolding fits-tests fits-test choose
fits-pass = refl

pub choice-fits : (r w : ℕ) → r ≤ 8 → w < 8 → start w + choice r w ≤ 255
unfolding fits-tests fits-test
choice-fits r w rows weights = leb-true _ _ (every_to-at 8 (fits-test r) (every_to-at 9 fits-tests fits-pass r (omega arith)) w weights)

pub start-end : start 8 ≡ 255
unfolding choose
start-end = refl

module _ (τ r w : ℕ) (rows : r ≤ 8) (weights : w < 8) where
  pub count_fits : start w + count τ r w ≤ 255
  count_fits = go (rule_weight τ (suc w))
    where
      go : (b : Bool) → start w + cond b (choice r w) 0 ≤ 255
      go true = choice-fits r w rows weights
      go false = omega (arith, choice-fits r w rows weights)

  -- the eligible columns from a weight on: its block, and those from the next weight on
  pub block-kept :
      keep (eligible τ r) (drop (start w) column_order)
      ≡ take (count τ r w) (drop (start w) column_order) ++ keep (eligible τ r) (drop (start (suc w)) column_order)
  unfolding kept-tests kept_test eligible
  block-kept =
      let cs : List ℕ = drop (start w) column_order in
      let two : Bool = eqb τ 2 in
      let row = every_to-at 9 (kept-tests column_order two) (kept-pass two) r (omega arith) in
      let block : keep (eligible τ r) (take (choice 8 w) cs) ≡ take (count τ r w) cs
      = differences-zero _ _ (eqb-true _ _ (every_to-at 8 (kept_test column_order two r) row w weights)) in
      ap (keep (eligible τ r)) (sym (take-append-drop (choice 8 w) cs))
      ∙ keep_append (eligible τ r) (take (choice 8 w) cs) (drop (choice 8 w) cs)
      ∙ (λ i. block i ++ keep (eligible τ r) (drop-drop (choice 8 w) (start w) column_order i))

  pub block-length : length (take (count τ r w) (drop (start w) column_order)) ≡ count τ r w
  block-length = length-take-le _ _ (omega (arith, length-drop (start w) column_order, order_claim.sized, count_fits))

-- ---- a part filled block by block

filled-append :
    (xs ys bs : List ℕ) → filled_from (xs ++ ys) bs ≡ take (length xs) (filled_from xs bs) ++ filled_from ys (drop (length xs) (filled_from xs bs))
filled-append [] ys [] = refl
filled-append [] ys (b ∷ bs) = refl
filled-append (x ∷ xs) ys [] = refl
filled-append (x ∷ xs) ys (b ∷ bs) = ap (λ l. x ∷ l) (filled-append xs ys bs)

-- the part as it will be: its first places, and then the columns to come
abbrev pub goes : List ℕ → List ℕ → ℕ → List ℕ
goes cs part found = take found part ++ filled_from cs (drop found part)

module _ (cs part : List ℕ) (found : ℕ) where
  -- a block that is written leaves it as it will be
  pub goes-next :
      (block : List ℕ) → found ≤ length part → goes cs (goes block part found) (found + length block) ≡ goes (block ++ cs) part found
  goes-next block h =
      let front : List ℕ = take found part in
      let later : List ℕ = filled_from block (drop found part) in
      let sized : length front ≡ found = length-take-le found part h in
      ap (λ n. goes cs (front ++ later) (n + length block)) (sym sized)
      ∙ ap₂ (λ xs ys. xs ++ filled_from cs ys) (take-append-add front later (length block)) (drop-append-add front later (length block))
      ∙ append_assoc front (take (length block) later) (filled_from cs (drop (length block) later))
      ∙ ap (λ l. front ++ l) (sym (filled-append block cs (drop found part)))

  -- no place is left, or no column: it is as it will be
  pub goes-full : length part ≤ found → goes cs part found ≡ part
  goes-full h = rw (drop_of_length-le part h, append-nil, take_all)

pub goes-ended : (part : List ℕ) (found : ℕ) → goes [] part found ≡ part
goes-ended part found = rw (filled_none, take-append-drop)
  where
    filled_none : (bs : List ℕ) → filled_from [] bs ≡ bs
    filled_none [] = refl
    filled_none (b ∷ bs) = refl
