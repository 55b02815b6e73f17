-- A loop's search for the first number below an end that passes a test: what is left of the search gives the whole search's answer.
-- Assumes nothing.
use mathlib.Core.Path.{◌≡◌, refl, sym, ◌∙◌, ap, ap₂}
use mathlib.Core.Bool.{Bool, true, false, cond}
use Prim.Native.Nat.{ℕ, zero, suc, ◌+◌, ◌-◌, ◌<◌}
use native.Mathlib.Numerals.{add-one}
use native.Mathlib.Omega.{arith}
use Rattle.parity.specs.Lists.{first_from}

-- the search from i on
abbrev pub searched : (ℕ → Bool) → ℕ → ℕ → ℕ
searched p end i = first_from p (end - i) i

module _ (p : ℕ → Bool) (end i : ℕ) (h : i < end) where
  step : searched p end i ≡ cond (p i) i (searched p end (suc i))
  step =
      let less : end - i ≡ suc (end - suc i) = omega arith in
      ap (λ n. first_from p n i) less

  pub search-found : p i ≡ true → searched p end i ≡ i
  search-found passes = step ∙ ap (λ t. cond t i (searched p end (suc i))) passes

  pub search-missed : p i ≡ false → searched p end i ≡ searched p end (i + 1)
  search-missed fails = step ∙ ap (λ t. cond t i (searched p end (suc i))) fails ∙ ap (searched p end) (sym (add-one i))

pub search-ended : (p : ℕ → Bool) (end : ℕ) → searched p end end ≡ end
search-ended p end =
    let none : end - end ≡ 0 = omega arith in
    ap (λ n. first_from p n end) none

-- two tests that agree on the numbers asked find the same
pub search-same :
    (p q : ℕ → Bool) (n i : ℕ) → ((j : ℕ) → j < i + n → p j ≡ q j) → first_from p n i ≡ first_from q n i
search-same p q zero i same = refl
search-same p q (suc n) i same =
    ap₂ (λ t x. cond t i x) (same i (omega arith)) (search-same p q n (suc i) (λ j h. same j (omega arith)))

-- a search from the second number on, by the test of the number before
pub search-shift : (p : ℕ → Bool) (n i : ℕ) → first_from p n (suc i) ≡ suc (first_from (λ j. p (suc j)) n i)
search-shift p zero i = refl
search-shift p (suc n) i = go (p (suc i)) (search-shift p n (suc i))
  where
    go :
        (b : Bool) → first_from p n (suc (suc i)) ≡ suc (first_from (λ j. p (suc j)) n (suc i))
        → cond b (suc i) (first_from p n (suc (suc i))) ≡ suc (cond b i (first_from (λ j. p (suc j)) n (suc i)))
    go true rest = refl
    go false rest = rest
