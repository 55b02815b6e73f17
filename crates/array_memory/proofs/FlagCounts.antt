-- How many rows are flagged, flag by flag and list by list. Assumes nothing.
use mathlib.Core.Path.{◌≡◌, refl, sym, ◌∙◌, ap}
use mathlib.Core.Bool.{Bool, true, false, cond, not, not-not}
use mathlib.Core.List.{List, [], ◌∷◌, ◌++◌}
use Prim.Native.Nat.{ℕ, zero, suc, ◌+◌, ◌*◌, ◌≤◌, ◌<◌, suc-le-suc}
use native.Mathlib.Nat.{zero-lt-suc, suc-mul}
use native.Mathlib.Numerals.{add-one}
use native.Mathlib.Omega.{arith}
use lib.ListN.{length, get_or, take, drop, length-append}
use lib.Dec.{eqb}
use lib.Seq.{take-suc, take-add}
use borrow.Author.Tests.{eqb-true}
use Rattle.parity.specs.Lists.{keep, sum_to}
use Rattle.parity.proofs.ListLaws.{keep_append}
use Rattle.array_memory.specs.Blocks.{block_at, is_flagged, count_flagged}

pub count-append : (xs ys : List ℕ) → count_flagged (xs ++ ys) ≡ count_flagged xs + count_flagged ys
unfolding count_flagged
count-append xs ys = ap length (keep_append is_flagged xs ys) ∙ length-append (keep is_flagged xs) (keep is_flagged ys)

pub count_low : (xs : List ℕ) → count_flagged xs ≤ length xs
unfolding count_flagged
count_low [] = omega arith
count_low (x ∷ xs) = go (is_flagged x) (count_low xs)
  where
    go : (b : Bool) → length (keep is_flagged xs) ≤ length xs → length (cond b (x ∷ keep is_flagged xs) (keep is_flagged xs)) ≤ suc (length xs)
    go true h = omega arith
    go false h = omega arith

-- no row is flagged exactly where every flag is 0
pub flag-zero : (x : ℕ) → is_flagged x ≡ false → x ≡ 0
flag-zero x e = eqb-true x 0 (sym (not-not (eqb x 0)) ∙ ap not e)

pub count-zero : (xs : List ℕ) → count_flagged xs ≡ 0 → (j : ℕ) → get_or xs j 0 ≡ 0
unfolding count_flagged
count-zero [] e j = refl
count-zero (x ∷ xs) e j = go (count-zero xs) (is_flagged x) refl e j
  where
    go :
        (length (keep is_flagged xs) ≡ 0 → (j : ℕ) → get_or xs j 0 ≡ 0) → (b : Bool) → is_flagged x ≡ b
        → length (cond b (x ∷ keep is_flagged xs) (keep is_flagged xs)) ≡ 0 → (j : ℕ) → get_or (x ∷ xs) j 0 ≡ 0
    go rest true f e j = absurd (omega arith)
    go rest false f e zero = flag-zero x f
    go rest false f e (suc j) = rest e j

pub zero-count : (xs : List ℕ) → ((j : ℕ) → j < length xs → get_or xs j 0 ≡ 0) → count_flagged xs ≡ 0
unfolding count_flagged
zero-count [] zeros = refl
zero-count (x ∷ xs) zeros =
    let first : is_flagged x ≡ false = ap is_flagged (zeros zero (zero-lt-suc _)) in
    rw first (zero-count xs (λ j h. zeros (suc j) (suc-le-suc h)))

-- one flag more
module _ (xs : List ℕ) (i : ℕ) (h : i < length xs) where
  one : (b : Bool) → is_flagged (get_or xs i 0) ≡ b → count_flagged (get_or xs i 0 ∷ []) ≡ cond b 1 0
  unfolding count_flagged
  one true e = ap (λ b. length (cond b (get_or xs i 0 ∷ []) [])) e
  one false e = ap (λ b. length (cond b (get_or xs i 0 ∷ []) [])) e

  pub count_next : (b : Bool) → is_flagged (get_or xs i 0) ≡ b → count_flagged (take (i + 1) xs) ≡ count_flagged (take i xs) + cond b 1 0
  count_next b e =
      ap (λ n. count_flagged (take n xs)) (add-one i)
      ∙ ap count_flagged (take-suc xs i 0 h)
      ∙ count-append (take i xs) (get_or xs i 0 ∷ [])
      ∙ ap (λ n. count_flagged (take i xs) + n) (one b e)

-- the first n blocks: as many flagged rows as all of them have
pub count-blocks : (flags : List ℕ) (n : ℕ) → count_flagged (take (n * 64) flags) ≡ sum_to n (λ i. count_flagged (block_at flags i))
unfolding block_at
count-blocks flags zero = zero-count (take (0 * 64) flags) (λ j h. absurd (omega arith))
count-blocks flags (suc n) =
    ap (λ k. count_flagged (take k flags)) (suc-mul n 64)
    ∙ ap count_flagged (take-add (n * 64) 64 flags)
    ∙ count-append (take (n * 64) flags) (take 64 (drop (n * 64) flags))
    ∙ ap (λ k. k + count_flagged (take 64 (drop (n * 64) flags))) (count-blocks flags n)
