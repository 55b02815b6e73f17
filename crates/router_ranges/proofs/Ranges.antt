-- Every cell of a rule's levels answers a bottle exactly where the rule holds it, no row of zeros does, and a rule is read back as it was written.
-- Assumes nothing.
use mathlib.Core.Path.{◌≡◌, refl, sym, ap, ap₂, ◌∙◌}
use mathlib.Core.Bool.{Bool, true, false, ◌&&◌}
use mathlib.Core.List.{List, [], ◌∷◌}
use Prim.Native.Nat.{ℕ, zero, suc, ◌+◌, ◌-◌, ◌*◌, ◌≤◌, ◌<◌}
use native.Mathlib.Omega.{arith}
use lib.Dec.{leb}
use lib.ListN.{length, get_or, replicate, length-replicate}
use borrow.Author.Tests.{leb-true, leb-false, le-leb, lt-leb, lt-ltb}
use Rattle.parity.specs.Lists.{alongside, every_to}
use Rattle.parity.specs.Match.{all_answer}
use Rattle.parity.specs.Claims.{Below}
use Rattle.parity.proofs.Comparator.{reaches, all-answer}
use Rattle.parity.proofs.ListLaws.{Each, every-passes}
use Rattle.router_ranges.specs.Ranges.{Ranges, ranges_of, in_range, holds, paired, rule_levels, bottle_inputs, ranges_in}
use Rattle.router_ranges.specs.Claims.{Proper, Bottle, RangesClaim}
use Rattle.router_ranges.proofs.Pairs.{paired-length, paired_each, paired-even, paired-odd, tabulate-places}

-- ---- a rule and a bottle

-- what is left of the top level grows where the number falls
leb-left : (top x low : ℕ) → x ≤ top → low ≤ top → leb (top - x) (top - low) ≡ leb low x
leb-left top x low h k = go (leb low x) refl
  where
    go : (b : Bool) → leb low x ≡ b → leb (top - x) (top - low) ≡ b
    go true e = let fits : low ≤ x = leb-true low x e in le-leb (top - x) (top - low) (omega arith)
    go false e = let under : x < low = leb-false low x e in lt-leb (top - x) (top - low) (omega arith)

-- a test of the numbers below n + 1 is that of the first and those of the others
every_to-first : (n : ℕ) (p : ℕ → Bool) → every_to (suc n) p ≡ p 0 && every_to n (λ i. p (suc i))
every_to-first zero p = go (p 0)
  where
    go : (a : Bool) → true && a ≡ a && true
    go true = refl
    go false = refl
every_to-first (suc n) p = ap (λ b. b && p (suc n)) (every_to-first n p) ∙ go (p 0) (every_to n (λ i. p (suc i))) (p (suc n))
  where
    go : (a b c : Bool) → (a && b) && c ≡ a && (b && c)
    go true b c = refl
    go false b c = refl

regroup : (a b rest : Bool) → a && (b && rest) ≡ (b && a) && rest
regroup true true rest = refl
regroup true false rest = refl
regroup false true rest = refl
regroup false false rest = refl

reached-held :
    (top : ℕ) (lows highs xs : List ℕ) → length lows ≡ length xs → length highs ≡ length xs → Each (λ v. v ≤ top) lows → Each (λ v. v ≤ top) xs
    → alongside leb (paired top xs xs) (paired top highs lows) ≡ every_to (length xs) (λ i. in_range (get_or lows i 0) (get_or highs i 0) (get_or xs i 0))
reached-held top [] [] [] el eh hl hx = refl
reached-held top [] (high ∷ highs) xs el eh hl hx = absurd (omega arith)
reached-held top (low ∷ lows) [] xs el eh hl hx = absurd (omega arith)
reached-held top [] [] (x ∷ xs) el eh hl hx = absurd (omega arith)
reached-held top (low ∷ lows) (high ∷ highs) [] el eh hl hx = absurd (omega arith)
reached-held top (low ∷ lows) (high ∷ highs) (x ∷ xs) el eh hl hx =
    ap₂ (λ a rest. leb x high && (a && rest)) (leb-left top x low (hx 0 (omega arith)) (hl 0 (omega arith)))
    (reached-held top lows highs xs (omega arith) (omega arith) (λ j l. hl (suc j) (omega arith)) (λ j l. hx (suc j) (omega arith)))
    ∙ regroup (leb x high) (leb low x) _
    ∙ sym (every_to-first (length xs) (λ i. in_range (get_or (low ∷ lows) i 0) (get_or (high ∷ highs) i 0) (get_or (x ∷ xs) i 0)))

-- levels are at most the top level
at_most : (q f : ℕ) (xs : List ℕ) → length xs ≡ f → Below q f xs → Each (λ v. v ≤ q - 1) xs
at_most q f xs e below j h = omega (arith, below j (omega arith))

-- ---- a row of zeros

-- of the first two cells one says no: x is not 0, or what it leaves of the top level isn't
zeros-refuse : (top x : ℕ) (xs : List ℕ) → 0 < top → (f : ℕ) → alongside leb (paired top (x ∷ xs) (x ∷ xs)) (replicate (suc (suc f)) 0) ≡ false
zeros-refuse top zero xs h f = rw (lt-leb (top - 0) 0 (omega arith))
zeros-refuse top (suc x) xs h f = rw (lt-leb (suc x) 0 (omega arith))

no-zeros :
    (q f : ℕ) (values : List ℕ) → 2 ≤ q → 0 < f → length values ≡ f → alongside leb (paired (q - 1) values values) (replicate (2 * f) 0) ≡ false
no-zeros q f [] h pos e = absurd (omega arith)
no-zeros q f (x ∷ xs) h pos e =
    let two : 2 * f ≡ suc (suc (2 * f - 2)) = omega arith in
    ap (λ n. alongside leb (paired (q - 1) (x ∷ xs) (x ∷ xs)) (replicate n 0)) two ∙ zeros-refuse (q - 1) x xs (omega arith) (2 * f - 2)

-- ---- read back

read_low : (q f : ℕ) (lows highs : List ℕ) → length lows ≡ f → length highs ≡ f → Below q f lows
    → (i : ℕ) → i < f → q - 1 - get_or (paired (q - 1) highs lows) (suc (2 * i)) 0 ≡ get_or lows i 0
read_low q f lows highs el eh below i h =
    ap (λ v. q - 1 - v) (paired-odd (q - 1) highs lows i (el ∙ sym eh) (omega arith)) ∙ omega (arith, below i h)

read_back : (q f : ℕ) (lows highs : List ℕ) → length lows ≡ f → length highs ≡ f → Below q f lows
    → ranges_in q f (paired (q - 1) highs lows) ≡ ranges_of lows highs
unfolding ranges_in
read_back q f lows highs el eh below =
    ap₂ ranges_of (tabulate-places f _ lows el (read_low q f lows highs el eh below))
    (tabulate-places f _ highs eh (λ i h. paired-even (q - 1) highs lows i (el ∙ sym eh) (omega arith)))

-- ---- a rule's levels and a bottle's inputs: two for each feature, all of them levels

module _ (q f : ℕ) (xs ys : List ℕ) (ex : length xs ≡ f) (ey : length ys ≡ f) where
  pairs-sized : length (paired (q - 1) xs ys) ≡ f + f
  pairs-sized = paired-length (q - 1) xs ys (ey ∙ sym ex) ∙ ap₂ ◌+◌ ex ex

  pairs_below : Below q f xs → Below q (f + f) (paired (q - 1) xs ys)
  pairs_below below j h =
      paired_each (q - 1) (λ v. v < q) xs ys (λ j l. below j (omega arith)) (λ j l. omega (arith, below j (omega arith))) j (omega (arith, pairs-sized))

  -- so to all of them, as inputs, the cells of a row answer by comparison alone
  pairs-reach : Below q f xs → reaches q (paired (q - 1) xs ys) ≡ true
  pairs-reach below = every-passes _ (paired (q - 1) xs ys) 0 (λ j h. lt-ltb _ _ (pairs_below below j (omega (arith, pairs-sized))))

  pairs-compared :
      Below q f xs → (row : List ℕ) → length row ≡ f + f → all_answer q (paired (q - 1) xs ys) row ≡ alongside leb (paired (q - 1) xs ys) row
  pairs-compared below row e =
      all-answer q (paired (q - 1) xs ys) row (pairs-sized ∙ sym e) ∙ ap (λ t. t && alongside leb (paired (q - 1) xs ys) row) (pairs-reach below)

module _ (q f : ℕ) (ranges : Ranges) (p : Proper q f ranges) where
  pub levels-sized : length (rule_levels q ranges) ≡ f + f
  unfolding rule_levels
  levels-sized = pairs-sized q f ranges.highs ranges.lows p.high_count p.low_count

  pub levels-below : Below q (f + f) (rule_levels q ranges)
  unfolding rule_levels
  levels-below = pairs_below q f ranges.highs ranges.lows p.high_count p.low_count p.high

module _ (q f : ℕ) (values : List ℕ) (b : Bottle q f values) where
  pub inputs-sized : length (bottle_inputs q values) ≡ f + f
  unfolding bottle_inputs
  inputs-sized = pairs-sized q f values values b.count b.count

  pub inputs-below : Below q (f + f) (bottle_inputs q values)
  unfolding bottle_inputs
  inputs-below = pairs_below q f values values b.count b.count b.below

  pub inputs-reach : reaches q (bottle_inputs q values) ≡ true
  unfolding bottle_inputs
  inputs-reach = pairs-reach q f values values b.count b.count b.below

-- ---- the claim

pub ranges_claim : RangesClaim
unfolding rule_levels bottle_inputs holds
ranges_claim =
    record {
      held =
          λ q f ranges values p b.
          pairs-compared q f values values b.count b.count b.below (paired (q - 1) ranges.highs ranges.lows)
          (pairs-sized q f ranges.highs ranges.lows p.high_count p.low_count)
          ∙ reached-held (q - 1) ranges.lows ranges.highs values (p.low_count ∙ sym b.count) (p.high_count ∙ sym b.count)
          (at_most q f ranges.lows p.low_count p.low) (at_most q f values b.count b.below);
      cleared =
          λ q f values h pos b.
          pairs-compared q f values values b.count b.count b.below (replicate (2 * f) 0) (length-replicate (2 * f) 0 ∙ omega arith)
          ∙ no-zeros q f values h pos b.count;
      read = λ q f ranges p. read_back q f ranges.lows ranges.highs p.low_count p.high_count p.low;
    }
