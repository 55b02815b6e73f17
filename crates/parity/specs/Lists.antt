-- The words on lists and sums that the definitions use.
use Rattle.std.specs.Prelude.{Bool, true, false, cond, ◌&&◌, List, [], ◌∷◌, ◌++◌, ℕ, zero, suc, ◌+◌, max, eqb}

module _ {ℓ} {A : Type ℓ} where
  -- f 0, f 1, .., f (n − 1)
  abbrev pub tabulate : ℕ → (ℕ → A) → List A
  tabulate zero f = []
  tabulate (suc n) f = tabulate n f ++ (f n ∷ [])

  -- f 0, f 1, .., f (n − 1), one list after the other
  abbrev pub joined : ℕ → (ℕ → List A) → List A
  joined zero f = []
  joined (suc n) f = joined n f ++ f n

  -- the elements that pass the test, in their order
  abbrev pub keep : (A → Bool) → List A → List A
  keep p [] = []
  keep p (x ∷ xs) = cond (p x) (x ∷ keep p xs) (keep p xs)

  -- every element passes the test
  abbrev pub every : (A → Bool) → List A → Bool
  every p [] = true
  every p (x ∷ xs) = p x && every p xs

  -- f at each element, added up
  abbrev pub sum_over : List A → (A → ℕ) → ℕ
  sum_over [] f = 0
  sum_over (x ∷ xs) f = f x + sum_over xs f

-- what a list makes of a thing, one element after the other, each of what the one before left
abbrev pub followed {ℓ ℓ'} : {A : Type ℓ} {C : Type ℓ'} → (A → C → A) → A → List C → A
followed next x [] = x
followed next x (c ∷ cs) = followed next (next x c) cs

-- f 0 + f 1 + .. + f (n − 1)
abbrev pub sum_to : ℕ → (ℕ → ℕ) → ℕ
sum_to zero f = 0
sum_to (suc n) f = sum_to n f + f n

-- the test passes at 0, 1, .., n − 1
abbrev pub every_to : ℕ → (ℕ → Bool) → Bool
every_to zero p = true
every_to (suc n) p = every_to n p && p n

-- the first number that passes the test, of n numbers from i on; i + n where none does
abbrev pub first_from : (ℕ → Bool) → ℕ → ℕ → ℕ
first_from p zero i = i
first_from p (suc n) i = cond (p i) i (first_from p n (suc i))

-- the largest of the numbers, 0 where there is none
abbrev pub greatest : List ℕ → ℕ
greatest [] = 0
greatest (x ∷ xs) = max x (greatest xs)

-- two lists of one length, whose elements pass the test place by place
abbrev pub alongside : (ℕ → ℕ → Bool) → List ℕ → List ℕ → Bool
alongside p [] [] = true
alongside p [] (y ∷ ys) = false
alongside p (x ∷ xs) [] = false
alongside p (x ∷ xs) (y ∷ ys) = p x y && alongside p xs ys

-- a buffer filled from the front with the first elements of a list, as many as both have
abbrev pub filled_from : List ℕ → List ℕ → List ℕ
filled_from xs [] = []
filled_from [] (b ∷ bs) = b ∷ bs
filled_from (x ∷ xs) (b ∷ bs) = x ∷ filled_from xs bs

-- in how many places two lists differ; a place that only one of them has is one of those
abbrev pub differences : List ℕ → List ℕ → ℕ
differences [] [] = 0
differences [] (y ∷ ys) = suc (differences [] ys)
differences (x ∷ xs) [] = suc (differences xs [])
differences (x ∷ xs) (y ∷ ys) = cond (eqb x y) (differences xs ys) (suc (differences xs ys))
