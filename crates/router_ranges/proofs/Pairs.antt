-- Two numbers to a feature: how many there are, that they are levels, and which stands in which column. Assumes nothing.
use mathlib.Core.Path.{◌≡◌, refl, sym, ap, ◌∙◌}
use mathlib.Core.List.{List, [], ◌∷◌}
use Prim.Native.Nat.{ℕ, zero, suc, ◌+◌, ◌-◌, ◌*◌, ◌<◌}
use native.Mathlib.Nat.{le_of_suc-le-suc, not-suc-le-zero}
use native.Mathlib.Omega.{arith}
use lib.ListN.{length, get_or}
use lib.Seq.{ext_get_or}
use Rattle.parity.specs.Lists.{tabulate}
use Rattle.parity.proofs.ListLaws.{Each, each-cons, length-tabulate, get_or-tabulate}
use Rattle.router_ranges.specs.Ranges.{paired}

module _ (top : ℕ) where
  pub paired-length : (xs ys : List ℕ) → length ys ≡ length xs → length (paired top xs ys) ≡ length xs + length xs
  paired-length [] ys e = refl
  paired-length (x ∷ xs) [] e = absurd (omega arith)
  paired-length (x ∷ xs) (y ∷ ys) e = omega (arith, paired-length xs ys (omega arith))

  -- what holds of the first numbers, and of what the second leave, holds of all
  pub paired_each : (P : ℕ → Type 0) (xs ys : List ℕ) → Each P xs → Each (λ y. P (top - y)) ys → Each P (paired top xs ys)
  paired_each P [] ys h k = λ j l. absurd (not-suc-le-zero l)
  paired_each P (x ∷ xs) [] h k = λ j l. absurd (not-suc-le-zero l)
  paired_each P (x ∷ xs) (y ∷ ys) h k =
      each-cons P x ((top - y) ∷ paired top xs ys) (h 0 (omega arith))
      (each-cons P (top - y) (paired top xs ys) (k 0 (omega arith))
      (paired_each P xs ys (λ j l. h (suc j) (omega arith)) (λ j l. k (suc j) (omega arith))))

  pub paired-even : (xs ys : List ℕ) (i : ℕ) → length ys ≡ length xs → i < length xs → get_or (paired top xs ys) (2 * i) 0 ≡ get_or xs i 0
  paired-even [] ys i e h = absurd (not-suc-le-zero h)
  paired-even (x ∷ xs) [] i e h = absurd (omega arith)
  paired-even (x ∷ xs) (y ∷ ys) zero e h = refl
  paired-even (x ∷ xs) (y ∷ ys) (suc i) e h =
      let next : 2 * suc i ≡ suc (suc (2 * i)) = omega arith in
      ap (λ j. get_or (paired top (x ∷ xs) (y ∷ ys)) j 0) next ∙ paired-even xs ys i (omega arith) (le_of_suc-le-suc h)

  pub paired-odd : (xs ys : List ℕ) (i : ℕ) → length ys ≡ length xs → i < length xs → get_or (paired top xs ys) (suc (2 * i)) 0 ≡ top - get_or ys i 0
  paired-odd [] ys i e h = absurd (not-suc-le-zero h)
  paired-odd (x ∷ xs) [] i e h = absurd (omega arith)
  paired-odd (x ∷ xs) (y ∷ ys) zero e h = refl
  paired-odd (x ∷ xs) (y ∷ ys) (suc i) e h =
      let next : suc (2 * suc i) ≡ suc (suc (suc (2 * i))) = omega arith in
      ap (λ j. get_or (paired top (x ∷ xs) (y ∷ ys)) j 0) next ∙ paired-odd xs ys i (omega arith) (le_of_suc-le-suc h)

-- a list, by what stands in its places
pub tabulate-places : (n : ℕ) (f : ℕ → ℕ) (xs : List ℕ) → length xs ≡ n → ((i : ℕ) → i < n → f i ≡ get_or xs i 0) → tabulate n f ≡ xs
tabulate-places n f xs e same =
    ext_get_or 0 (tabulate n f) xs (length-tabulate n f ∙ sym e)
    (λ i h. let l : i < n = omega (arith, length-tabulate n f) in get_or-tabulate n f i 0 l ∙ same i l)
