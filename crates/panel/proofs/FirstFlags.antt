-- The first byte that isn't 0: every byte before it is 0, it is not, and no other place is so. Assumes nothing.
use mathlib.Core.Path.{◌≡◌, refl, sym, ◌∙◌, ap}
use mathlib.Core.Bool.{Bool, true, false, cond, not, true≢false}
use mathlib.Core.List.{List, [], ◌∷◌, ◌++◌}
use Prim.Native.Nat.{ℕ, zero, suc, ◌+◌, ◌<◌}
use native.Mathlib.Nat.{le_of_suc-le-suc, not-suc-le-zero}
use native.Mathlib.Numerals.{add-one}
use native.Mathlib.Omega.{arith}
use lib.ListN.{length, get_or, take}
use lib.Seq.{take-suc}
use borrow.Author.Tests.{ne_eqb}
use Rattle.parity.specs.Lists.{sum_over}
use Rattle.parity.proofs.ListLaws.{sum-take-suc}
use Rattle.shape.proofs.Search.{search-shift}
use Rattle.array_memory.specs.Blocks.{is_flagged}
use Rattle.array_memory.proofs.FlagCounts.{flag-zero}
use Rattle.panel.specs.Panel.{first_nonzero}

first-cons : (x : ℕ) (xs : List ℕ) → first_nonzero (x ∷ xs) ≡ cond (is_flagged x) 0 (suc (first_nonzero xs))
unfolding first_nonzero
first-cons x xs = ap (cond (is_flagged x) 0) (search-shift (λ i. is_flagged (get_or (x ∷ xs) i 0)) (length xs) 0)

pub first-before : (xs : List ℕ) (j : ℕ) → j < first_nonzero xs → get_or xs j 0 ≡ 0
unfolding first_nonzero
first-before [] j h = refl
first-before (x ∷ xs) j h = go (first-before xs) (is_flagged x) refl j (rw first-cons at h)
  where
    go :
        ((j : ℕ) → j < first_nonzero xs → get_or xs j 0 ≡ 0) → (b : Bool) → is_flagged x ≡ b
        → (j : ℕ) → j < cond b 0 (suc (first_nonzero xs)) → get_or (x ∷ xs) j 0 ≡ 0
    go rest true f j h = absurd (not-suc-le-zero h)
    go rest false f zero h = flag-zero x f
    go rest false f (suc j) h = rest j (le_of_suc-le-suc h)

pub first-there : (xs : List ℕ) → first_nonzero xs < length xs → get_or xs (first_nonzero xs) 0 ≡ 0 → ⊥
unfolding first_nonzero
first-there [] h = absurd (not-suc-le-zero h)
first-there (x ∷ xs) h = rw first-cons (go (first-there xs) (is_flagged x) refl (rw first-cons at h))
  where
    go :
        (first_nonzero xs < length xs → get_or xs (first_nonzero xs) 0 ≡ 0 → ⊥) → (b : Bool) → is_flagged x ≡ b
        → cond b 0 (suc (first_nonzero xs)) < suc (length xs) → get_or (x ∷ xs) (cond b 0 (suc (first_nonzero xs))) 0 ≡ 0 → ⊥
    go rest true f h e = true≢false (sym f ∙ ap is_flagged e)
    go rest false f h e = rest (le_of_suc-le-suc h) e

pub first-is :
    (xs : List ℕ) (k : ℕ) → k < length xs → ((j : ℕ) → j < k → get_or xs j 0 ≡ 0) → (get_or xs k 0 ≡ 0 → ⊥) → first_nonzero xs ≡ k
first-is xs k h before there =
    let not-less : first_nonzero xs < k → ⊥ = λ l. first-there xs (omega arith) (before (first_nonzero xs) l) in
    let not_more : k < first_nonzero xs → ⊥ = λ l. there (first-before xs k l) in
    omega (arith, not-less, not_more)

-- ---- one byte more: the first that isn't 0 is further on as long as the sum is 0, and stays from then on

abbrev pub sum : List ℕ → ℕ
sum xs = sum_over xs (λ x. x)

first-zero : (x : ℕ) (xs : List ℕ) → x ≡ 0 → first_nonzero (x ∷ xs) ≡ suc (first_nonzero xs)
first-zero x xs e = first-cons x xs ∙ rw e refl

zero-snoc : (xs : List ℕ) (t : ℕ) → sum (xs ++ t ∷ []) ≡ 0 → first_nonzero (xs ++ t ∷ []) ≡ suc (first_nonzero xs)
unfolding first_nonzero
zero-snoc [] t e = let zero-byte : t ≡ 0 = omega arith in rw zero-byte refl
zero-snoc (x ∷ xs) t e =
    let zero-byte : x ≡ 0 = omega arith in
    let rest : sum (xs ++ t ∷ []) ≡ 0 = omega arith in
    first-zero x (xs ++ t ∷ []) zero-byte ∙ ap suc (zero-snoc xs t rest ∙ sym (first-zero x xs zero-byte))

more-snoc : (xs : List ℕ) (t : ℕ) → (sum (xs ++ t ∷ []) ≡ 0 → ⊥) → first_nonzero (xs ++ t ∷ []) ≡ first_nonzero xs
unfolding first_nonzero
more-snoc [] t some = first-cons t [] ∙ ap (λ b. cond b 0 1) (ap not (ne_eqb t 0 (λ e. some (omega arith))))
more-snoc (x ∷ xs) t some = first-cons x (xs ++ t ∷ []) ∙ go (is_flagged x) refl (more-snoc xs t) ∙ sym (first-cons x xs)
  where
    go :
        (b : Bool) → is_flagged x ≡ b → ((sum (xs ++ t ∷ []) ≡ 0 → ⊥) → first_nonzero (xs ++ t ∷ []) ≡ first_nonzero xs)
        → cond b 0 (suc (first_nonzero (xs ++ t ∷ []))) ≡ cond b 0 (suc (first_nonzero xs))
    go true f rest = refl
    go false f rest = ap suc (rest (λ e. some (omega (arith, flag-zero x f))))

module _ (xs : List ℕ) (i : ℕ) (h : i < length xs) where
  one_more : take (i + 1) xs ≡ take i xs ++ get_or xs i 0 ∷ []
  one_more = ap (λ n. take n xs) (add-one i) ∙ take-suc xs i 0 h

  pub sum-next : sum (take (i + 1) xs) ≡ sum (take i xs) + get_or xs i 0
  sum-next = ap (λ n. sum (take n xs)) (add-one i) ∙ sum-take-suc (λ x. x) xs i 0 h

  pub first-further : sum (take (i + 1) xs) ≡ 0 → first_nonzero (take (i + 1) xs) ≡ first_nonzero (take i xs) + 1
  first-further e = ap first_nonzero one_more ∙ zero-snoc (take i xs) (get_or xs i 0) (sym (ap sum one_more) ∙ e) ∙ sym (add-one _)

  pub first-stays : (sum (take (i + 1) xs) ≡ 0 → ⊥) → first_nonzero (take (i + 1) xs) ≡ first_nonzero (take i xs)
  first-stays some = ap first_nonzero one_more ∙ more-snoc (take i xs) (get_or xs i 0) (λ e. some (ap sum one_more ∙ e))
