-- The comparison of inputs with the first cells of a row, cell after cell and stretch after stretch: the first that says no tells, and else each has
-- answered. Assumes nothing.
use mathlib.Core.Path.{◌≡◌, refl, sym, ◌∙◌, ap, ap₂, subst}
use mathlib.Core.Bool.{Bool, true, false, ◌&&◌, and-eq-true_iff, not-eq-not, false≢true}
use mathlib.Core.List.{List, [], ◌∷◌}
use mathlib.Core.Logic.{⊎_elim}
use Prim.Native.Nat.{ℕ, zero, suc, ◌+◌, ◌-◌, ◌≤◌, ◌<◌}
use native.Mathlib.Nat.{eq-zero-or-pos}
use native.Mathlib.Omega.{arith}
use lib.Dec.{leb}
use lib.ListN.{length, get_or, take, drop}
use lib.Seq.{length-take-le, get_or-take, get_or-drop}
use borrow.Rule.Slice.PartMut.{mid_of, mid_len}
use Rattle.acam.specs.Cell.{all_reached}

-- the cell in place i reaches its input
abbrev ReachedAt : List ℕ → List ℕ → ℕ → Type 0
ReachedAt inputs row i = leb (get_or inputs i 0) (get_or row i 0) ≡ true

-- the first n cells do
abbrev pub FirstReached : List ℕ → List ℕ → ℕ → Type 0
FirstReached inputs row n = (i : ℕ) → i < n → ReachedAt inputs row i

-- the answer of all is that of each
each-reached : (xs ys : List ℕ) → all_reached xs ys ≡ true → FirstReached xs ys (length xs)
each-reached [] ys e i h = absurd (omega arith)
each-reached (x ∷ xs) [] e i h = absurd (false≢true e)
each-reached (x ∷ xs) (y ∷ ys) e zero h = ((and-eq-true_iff (leb x y) (all_reached xs ys)).0 e).0
each-reached (x ∷ xs) (y ∷ ys) e (suc i) h = each-reached xs ys ((and-eq-true_iff (leb x y) (all_reached xs ys)).0 e).1 i (omega arith)

all-reached : (xs ys : List ℕ) → length xs ≡ length ys → FirstReached xs ys (length xs) → all_reached xs ys ≡ true
all-reached [] [] same each = refl
all-reached [] (y ∷ ys) same each = absurd (omega arith)
all-reached (x ∷ xs) [] same each = absurd (omega arith)
all-reached (x ∷ xs) (y ∷ ys) same each = ap₂ ◌&&◌ (each 0 (omega arith)) (all-reached xs ys (omega arith) (λ i h. each (suc i) (omega arith)))

module _ (inputs row : List ℕ) (fits : length inputs ≤ length row) where
  sized : length inputs ≡ length (take (length inputs) row)
  sized = sym (length-take-le (length inputs) row fits)

  -- the cell that is compared is the row's
  cell : (j : ℕ) → j < length inputs → (b : Bool) → leb (get_or inputs j 0) (get_or row j 0) ≡ b
      → leb (get_or inputs j 0) (get_or (take (length inputs) row) j 0) ≡ b
  cell j h b e = ap (leb (get_or inputs j 0)) (get_or-take (length inputs) row j 0 h) ∙ e

  -- a cell that says no
  pub cell-fails : (j : ℕ) → j < length inputs → leb (get_or inputs j 0) (get_or row j 0) ≡ false → all_reached inputs (take (length inputs) row) ≡ false
  cell-fails j h e = not-eq-not.0 (λ all. false≢true (sym (cell j h false e) ∙ each-reached inputs (take (length inputs) row) all j h))

  -- all have answered
  pub compare-all : FirstReached inputs row (length inputs) → all_reached inputs (take (length inputs) row) ≡ true
  compare-all first = all-reached inputs (take (length inputs) row) sized (λ i h. cell i h true (first i h))

-- ---- stretches

-- a place of a stretch is one of the whole
in-stretch :
    (inputs row : List ℕ) (start n i : ℕ) → i < n
    → leb (get_or (mid_of start n inputs) i 0) (get_or (mid_of start n row) i 0) ≡ leb (get_or inputs (start + i) 0) (get_or row (start + i) 0)
in-stretch inputs row start n i h = ap₂ leb (at inputs) (at row)
  where
    at : (l : List ℕ) → get_or (mid_of start n l) i 0 ≡ get_or l (start + i) 0
    at l = get_or-take n (drop start l) i 0 h ∙ get_or-drop start l i 0

module _ (inputs row : List ℕ) (fits : length inputs ≤ length row) (start end : ℕ) (within : end ≤ length inputs) where
  -- a stretch of the comparison
  abbrev stretch : Bool
  stretch = all_reached (mid_of start (end - start) inputs) (mid_of start (end - start) row)

  -- where it says no, so does the whole
  pub stretch-fails : stretch ≡ false → all_reached inputs (take (length inputs) row) ≡ false
  stretch-fails e =
      not-eq-not.0 (λ all.
      let size = end - start in
      let sized = mid_len start end inputs within in
      let each : FirstReached (mid_of start size inputs) (mid_of start size row) (length (mid_of start size inputs)) =
      λ i h. in-stretch inputs row start size i (omega (arith, sized))
      ∙ sym (cell inputs row fits (start + i) (omega (arith, sized)) _ refl)
      ∙ each-reached inputs (take (length inputs) row) all (start + i) (omega (arith, sized)) in
      false≢true
      (sym e ∙ all-reached (mid_of start size inputs) (mid_of start size row) (sized ∙ sym (mid_len start end row (omega arith))) each))

  -- where it says yes, and the cells before it have answered, those up to its end have
  pub stretch-passes : stretch ≡ true → FirstReached inputs row start → FirstReached inputs row end
  stretch-passes e first i below = ⊎_elim later (λ before. first i (omega arith)) (eq-zero-or-pos (start - i))
    where
      later : start - i ≡ 0 → ReachedAt inputs row i
      later here =
          let size = end - start in
          let at : start + (i - start) ≡ i = omega arith in
          subst (ReachedAt inputs row) at
          (sym (in-stretch inputs row start size (i - start) (omega arith))
          ∙ each-reached (mid_of start size inputs) (mid_of start size row) e (i - start) (omega (arith, mid_len start end inputs within)))

-- the last stretch says what the whole does, where the cells before it have answered
pub stretch-ends :
    (inputs row : List ℕ) → length inputs ≤ length row → (start : ℕ) → FirstReached inputs row start
    → all_reached (mid_of start (length inputs - start) inputs) (mid_of start (length inputs - start) row)
    ≡ all_reached inputs (take (length inputs) row)
stretch-ends inputs row fits start first = go _ refl
  where
    go : (b : Bool) → all_reached (mid_of start (length inputs - start) inputs) (mid_of start (length inputs - start) row) ≡ b
        → b ≡ all_reached inputs (take (length inputs) row)
    go true e = sym (compare-all inputs row fits (stretch-passes inputs row fits start (length inputs) (omega arith) e first))
    go false e = sym (stretch-fails inputs row fits start (length inputs) (omega arith) e)
