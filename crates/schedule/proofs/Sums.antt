-- Lengths and sums over the lists that the schedule is put together of. Assumes nothing.
use mathlib.Core.Path.{◌≡◌, refl, ap}
use mathlib.Core.Bool.{Bool, true, false, cond}
use mathlib.Core.List.{List, [], ◌∷◌, map}
use Prim.Native.Nat.{ℕ, zero, suc, ◌+◌, ◌*◌, ◌%◌, ◌<◌}
use native.Mathlib.Omega.{arith}
use lib.ListN.{length, length-append}
use Rattle.parity.specs.Lists.{tabulate, joined, keep, sum_over, sum_to}
use Rattle.parity.proofs.ListLaws.{sum-append}
use Rattle.parity.proofs.Remainders.{Same, same-eq, same_add, same-mod}
use Rattle.schedule.specs.Schedule.{over_each, at_last}
use Rattle.schedule.proofs.All.{All}

-- a choice between equals
pub cond_same : (b : Bool) (x : ℕ) → cond b x x ≡ x
cond_same true x = refl
cond_same false x = refl

module _ {ℓ} {A : Type ℓ} where
  -- ---- sum_over, list by list

  pub sum-over_each : (g : A → ℕ) (js : List ℕ) (f : ℕ → List A) → sum_over (over_each js f) g ≡ sum_over js (λ j. sum_over (f j) g)
  sum-over_each g [] f = refl
  sum-over_each g (j ∷ js) f = omega (arith, sum-append g (f j) (over_each js f), sum-over_each g js f)

  pub sum-map : {B : Type 0} (g : A → ℕ) (f : B → A) (xs : List B) → sum_over (map f xs) g ≡ sum_over xs (λ x. g (f x))
  sum-map g f [] = refl
  sum-map g f (x ∷ xs) = ap (λ y. g (f x) + y) (sum-map g f xs)

  pub sum-tabulate : (g : A → ℕ) (n : ℕ) (f : ℕ → A) → sum_over (tabulate n f) g ≡ sum_to n (λ i. g (f i))
  sum-tabulate g zero f = refl
  sum-tabulate g (suc n) f = omega (arith, sum-append g (tabulate n f) (f n ∷ []), sum-tabulate g n f)

  -- what is left out adds nothing
  pub sum-keep : (g : A → ℕ) (p : A → Bool) (xs : List A) → sum_over (keep p xs) g ≡ sum_over xs (λ x. cond (p x) (g x) 0)
  sum-keep g p [] = refl
  sum-keep g p (x ∷ xs) = go (p x) (sum-keep g p xs)
    where
      go : (b : Bool) → sum_over (keep p xs) g ≡ sum_over xs (λ x. cond (p x) (g x) 0)
          → sum_over (cond b (x ∷ keep p xs) (keep p xs)) g ≡ cond b (g x) 0 + sum_over xs (λ x. cond (p x) (g x) 0)
      go true e = omega arith
      go false e = omega arith

  -- element by element
  pub sum-each : (f g h : A → ℕ) (xs : List A) → All (λ x. f x + g x ≡ h x) xs → sum_over xs f + sum_over xs g ≡ sum_over xs h
  sum-each f g h [] k = refl
  sum-each f g h (x ∷ xs) k = omega (arith, sum-each f g h xs k.1)

  -- remainders before the sum change nothing modulo ρ
  pub sum_same : (ρ : ℕ) (f : A → ℕ) (xs : List A) → Same ρ (sum_over xs (λ x. f x % ρ)) (sum_over xs f)
  sum_same ρ f [] = same-eq refl
  sum_same ρ f (x ∷ xs) = same_add (same-mod ρ (f x)) (sum_same ρ f xs)

  -- ---- lengths

  pub length-sum : (xs : List A) → length xs ≡ sum_over xs (λ x. 1)
  length-sum [] = refl
  length-sum (x ∷ xs) = omega (arith, length-sum xs)

  pub length-joined : (n : ℕ) (f : ℕ → List A) → length (joined n f) ≡ sum_to n (λ i. length (f i))
  length-joined zero f = refl
  length-joined (suc n) f = omega (arith, length-append (joined n f) (f n), length-joined n f)

  pub length-at_last : (f : A → A) (xs : List A) → length (at_last f xs) ≡ length xs
  length-at_last f [] = refl
  length-at_last f (x ∷ []) = refl
  length-at_last f (x ∷ y ∷ ys) = ap suc (length-at_last f (y ∷ ys))

  -- lists of one length
  pub length-over_each :
      (js : List ℕ) (f : ℕ → List A) (m : ℕ) → ((j : ℕ) → length (f j) ≡ m) → length (over_each js f) ≡ length js * m
  length-over_each [] f m h = omega arith
  length-over_each (j ∷ js) f m h = omega (arith, length-append (f j) (over_each js f), h j, length-over_each js f m h)

-- ---- sum_to

-- a sum of steps, from g 0 to g n
pub sum-steps : (n : ℕ) (f g : ℕ → ℕ) → ((i : ℕ) → i < n → f i + g i ≡ g (suc i)) → sum_to n f + g 0 ≡ g n
sum-steps zero f g h = omega arith
sum-steps (suc n) f g h = omega (arith, sum-steps n f g (λ i l. h i (omega arith)), h n (omega arith))

pub sum-times : (n : ℕ) (c : ℕ) (f g : ℕ → ℕ) → ((i : ℕ) → i < n → f i ≡ c * g i) → sum_to n f ≡ c * sum_to n g
sum-times zero c f g h = omega arith
sum-times (suc n) c f g h = omega (arith, sum-times n c f g (λ i l. h i (omega arith)), h n (omega arith))
