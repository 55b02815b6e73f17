-- Up to τ changed digits do not go unseen: if every check row balances, there are none. One that holds exactly one of them does not balance;
-- one or two different columns have such a check row, and three of odd weight have one, or two whose difference is one. Assumes nothing.
use mathlib.Core.Path.{◌≡◌, refl, sym, ◌∙◌, ap}
use mathlib.Core.Logic.{◌⊎◌, inl, inr, ◌≢◌}
use mathlib.Core.List.{List, [], ◌∷◌}
use Prim.Native.Nat.{ℕ, zero, suc, ◌+◌, ◌-◌, ◌*◌, ◌%◌, ◌^◌, ◌≤◌, ◌<◌}
use native.Mathlib.Nat.{eq-zero-or-pos, add-mul, sub-add_cancel, ne_of_gt}
use native.Mathlib.Decide.{dec_lt}
use native.Mathlib.Omega.{arith}
use lib.ListN.{length}
use lib.Pow.{pow_mono, pow_pos}
use Rattle.parity.specs.Lists.{sum_over, sum_to}
use Rattle.parity.specs.Matrix.{bit, weight}
use Rattle.parity.proofs.ListLaws.{All}
use Rattle.parity.proofs.Remainders.{Same, same-minus}
use Rattle.parity.proofs.Digits.{digits-equal}
use Rattle.parity.proofs.Sums.{bit_below, bit-beyond}
use Rattle.parity.proofs.Changes.{Change, held, AllPairs}

-- ---- columns

-- Two different columns below 2^r are told apart by a check row, which holds exactly one of them; said as a contradiction, it needs no search.
pub told-apart : (r : ℕ) {c d : ℕ} → c < 2 ^ r → d < 2 ^ r → c ≢ d → ((ℓ : ℕ) → ℓ < r → bit ℓ c + bit ℓ d ≡ 1 → ⊥) → ⊥
told-apart r {c} {d} hc hd apart none =
    apart (digits-equal 2 r (omega arith) hc hd (λ ℓ lt. omega (arith, none ℓ lt, bit_below ℓ c, bit_below ℓ d)))

even-sums : (n : ℕ) (f g h : ℕ → ℕ) → ((ℓ : ℕ) → (f ℓ + g ℓ + h ℓ) % 2 ≡ 0) → (sum_to n f + sum_to n g + sum_to n h) % 2 ≡ 0
even-sums zero f g h even = refl
even-sums (suc n) f g h even = omega (arith, even-sums n f g h even, even n)

-- ---- sums in which each element counts as often as k says

module _ {A : Type 0} where
  abbrev weighted : (A → ℕ) → (A → ℕ) → List A → ℕ
  weighted k g es = sum_over es (λ e. k e * g e)

  weighted-none : (k g : A → ℕ) (es : List A) → sum_over es k ≡ 0 → weighted k g es ≡ 0
  weighted-none k g [] none = refl
  weighted-none k g (e ∷ es) none =
      let here : k e ≡ 0 = omega arith in
      omega (arith, weighted-none k g es (omega arith), ap (λ x. x * g e) here)

  -- where one element counts, once, the sum is its g
  weighted-one : (k : A → ℕ) (es : List A) → sum_over es k ≡ 1 → (e : A) × ((g : A → ℕ) → weighted k g es ≡ g e)
  weighted-one k [] one = absurd (omega arith)
  weighted-one k (e ∷ es) one = go (eq-zero-or-pos (k e)) (weighted-one k es)
    where
      go : (k e ≡ 0) ⊎ (0 < k e) → (sum_over es k ≡ 1 → (d : A) × ((g : A → ℕ) → weighted k g es ≡ g d))
          → (d : A) × ((g : A → ℕ) → weighted k g (e ∷ es) ≡ g d)
      go (inl none) rest =
          let there = rest (omega arith) in
          (there.0, λ g. omega (arith, there.1 g, ap (λ x. x * g e) none))
      go (inr some) rest =
          let here : k e ≡ 1 = omega arith in
          (e, λ g. omega (arith, weighted-none k g es (omega arith), ap (λ x. x * g e) here))

  weighted-minus :
      (m k g : A → ℕ) (es : List A) → All (λ e. k e ≤ m e) es → weighted (λ e. m e - k e) g es + weighted k g es ≡ weighted m g es
  weighted-minus m k g [] le = refl
  weighted-minus m k g (e ∷ es) le =
      omega (arith, weighted-minus m k g es le.1, sym (add-mul (m e - k e) (k e) (g e)) ∙ ap (λ x. x * g e) (sub-add_cancel le.0))

-- ---- balance

-- changing the digits, each as often as k says, keeps the sum mod ρ
abbrev pub Balanced : {ρ : ℕ} → (Change ρ → ℕ) → List (Change ρ) → Type 0
Balanced {ρ} k es = Same ρ (sum_over es (λ e. k e * e.old)) (sum_over es (λ e. k e * e.new))

module _ {ρ : ℕ} where
  one-unbalanced : (k : Change ρ → ℕ) (es : List (Change ρ)) → sum_over es k ≡ 1 → Balanced k es → ⊥
  one-unbalanced k es one b =
      let it = weighted-one k es one in
      it.0.changed (rw (it.1 (λ e. e.old), it.1 (λ e. e.new)) at b)

  balanced-minus :
      0 < ρ → (m k : Change ρ → ℕ) (es : List (Change ρ)) → All (λ e. k e ≤ m e) es → Balanced m es → Balanced k es
      → Balanced (λ e. m e - k e) es
  balanced-minus pos m k es le bm bk =
      same-minus pos (rw (weighted-minus m k (λ e. e.old) es le, weighted-minus m k (λ e. e.new) es le) bm) bk

-- what is asked of a column
pub record Column (τ r c : ℕ) : Type 0 where
  pub nonzero : 0 < c
  pub in_checks : c < 2 ^ r
  pub odd : τ ≡ 3 → weight c % 2 ≡ 1

module _ {ρ : ℕ} (pos : 0 < ρ) (r : ℕ) where
  -- Three changes, and a check row that holds one of the first two, so the third with it. Then each check row holds none or two of the three: one
  -- that holds one does not balance, and nor does one that holds all three, less the given one.
  three-even :
      (a b c : Change ρ) → All (λ e. e.column < 2 ^ r) (a ∷ b ∷ c ∷ []) → ((ℓ : ℕ) → ℓ < r → Balanced (held ℓ) (a ∷ b ∷ c ∷ []))
      → (ℓ : ℕ) → ℓ < r → held ℓ a + held ℓ b ≡ 1 → (weight a.column + weight b.column + weight c.column) % 2 ≡ 0
  unfolding weight
  three-even a b c in_checks balance ℓ₀ lt₀ first = even-sums 8 (λ ℓ. held ℓ a) (λ ℓ. held ℓ b) (λ ℓ. held ℓ c) (λ ℓ. even ℓ (dec_lt ℓ r))
    where
      abc : List (Change ρ)
      abc = a ∷ b ∷ c ∷ []

      bits : (ℓ : ℕ) → All (λ e. held ℓ e ≤ 1) abc
      bits ℓ = omega (arith, bit_below ℓ a.column, bit_below ℓ b.column, bit_below ℓ c.column)

      not-one : (ℓ : ℕ) → ℓ < r → sum_over abc (held ℓ) ≢ 1
      not-one ℓ lt one = one-unbalanced (held ℓ) abc one (balance ℓ lt)

      not-all : (ℓ : ℕ) → ℓ < r → sum_over abc (held ℓ) ≢ 3
      not-all ℓ lt all =
          one-unbalanced (λ e. held ℓ e - held ℓ₀ e) abc (omega (arith, bits ℓ, bits ℓ₀, not-one ℓ₀ lt₀))
          (balanced-minus pos (held ℓ) (held ℓ₀) abc (omega (arith, bits ℓ, bits ℓ₀)) (balance ℓ lt) (balance ℓ₀ lt₀))

      even : (ℓ : ℕ) → Dec (ℓ < r) → (held ℓ a + held ℓ b + held ℓ c) % 2 ≡ 0
      even ℓ (no out) =
          let le : 2 ^ r ≤ 2 ^ ℓ = pow_mono (omega arith) in
          omega (arith, bit-beyond a.column ℓ (omega arith), bit-beyond b.column ℓ (omega arith), bit-beyond c.column ℓ (omega arith))
      even ℓ (yes lt) = omega (arith, not-one ℓ lt, not-all ℓ lt, bits ℓ)

  -- for columns as asked, and different ones where τ is 2 or 3
  pub unchanged :
      {τ : ℕ} (es : List (Change ρ)) → length es ≤ τ → τ ≤ 3 → All (λ e. Column τ r e.column) es
      → AllPairs (λ d e. 2 ≤ τ → d.column ≢ e.column) es → ((ℓ : ℕ) → ℓ < r → Balanced (held ℓ) es) → length es ≡ 0
  unchanged [] few most good apart balance = refl
  unchanged (a ∷ []) few most good apart balance =
      absurd
      (told-apart r good.0.in_checks (pow_pos r) (ne_of_gt good.0.nonzero)
      (λ ℓ lt one. one-unbalanced (held ℓ) (a ∷ []) (omega (arith, bit-beyond 0 ℓ (pow_pos ℓ))) (balance ℓ lt)))
  unchanged (a ∷ b ∷ []) few most good apart balance =
      absurd
      (told-apart r good.0.in_checks good.1.0.in_checks (apart.0.0 few)
      (λ ℓ lt one. one-unbalanced (held ℓ) (a ∷ b ∷ []) (omega arith) (balance ℓ lt)))
  unchanged {τ} (a ∷ b ∷ c ∷ []) few most good apart balance =
      let e : τ ≡ 3 = omega arith in
      absurd
      (told-apart r good.0.in_checks good.1.0.in_checks (apart.0.0 (omega arith))
      (λ ℓ lt one. omega (arith, three-even a b c (omega arith) balance ℓ lt one, good.0.odd e, good.1.0.odd e, good.1.1.0.odd e)))
  unchanged (a ∷ b ∷ c ∷ d ∷ es) few most good apart balance = absurd (omega arith)
