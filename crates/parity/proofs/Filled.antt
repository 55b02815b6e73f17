-- A buffer written from the front: with what a function gives, place after place, the invariant of every loop that fills a buffer; and with
-- the elements of a list. Assumes nothing.
use mathlib.Core.Path.{◌≡◌, refl, sym, ◌∙◌, ap}
use mathlib.Core.List.{List, [], ◌∷◌, ◌++◌, append-nil}
use Prim.Native.Nat.{ℕ, suc, ◌+◌, ◌≤◌, ◌<◌}
use native.Mathlib.Nat.{add-zero}
use native.Mathlib.Numerals.{add-one}
use native.Mathlib.Omega.{arith}
use lib.ListN.{length, get_or, take, drop, set}
use lib.Seq.{take_all, drop-cons, drop-length, set_at, append_snoc, get_or-append-add, get_or-drop}
use Rattle.parity.specs.Lists.{tabulate, filled_from}
use Rattle.parity.proofs.ListLaws.{length-tabulate}

module _ {ℓ} {A : Type ℓ} where
  -- the first i places are f's, the rest as they were
  abbrev pub filled : (ℕ → A) → List A → ℕ → List A
  filled f l i = tabulate i f ++ drop i l

  -- what stands at a place that is not written yet
  pub filled-rest : (f : ℕ → A) (l : List A) (i j : ℕ) (d : A) → get_or (filled f l i) (i + j) d ≡ get_or l (i + j) d
  filled-rest f l i j d =
      ap (λ n. get_or (filled f l i) (n + j) d) (sym (length-tabulate i f)) ∙ get_or-append-add (tabulate i f) (drop i l) j d ∙ get_or-drop i l j d

  pub filled-here : (f : ℕ → A) (l : List A) (i : ℕ) (d : A) → get_or (filled f l i) i d ≡ get_or l i d
  filled-here f l i d = rw add-zero at (filled-rest f l i 0 d)

  pub filled_next : (f : ℕ → A) (l : List A) (i : ℕ) → i < length l → set (filled f l i) i (f i) ≡ filled f l (i + 1)
  filled_next f [] i h = absurd (omega arith)
  filled_next f (x ∷ xs) i h =
      ap (λ t. set (tabulate i f ++ t) i (f i)) (drop-cons (x ∷ xs) i x h)
      ∙ set_at (tabulate i f) (get_or (x ∷ xs) i x) (drop (suc i) (x ∷ xs)) (f i) i (length-tabulate i f)
      ∙ sym (append_snoc (tabulate i f) (f i) (drop (suc i) (x ∷ xs)))
      ∙ ap (filled f (x ∷ xs)) (sym (add-one i))

  pub filled-all : (f : ℕ → A) (l : List A) (i : ℕ) → i ≡ length l → filled f l i ≡ tabulate (length l) f
  filled-all f l i e =
      ap (filled f l) e ∙ ap (λ t. tabulate (length l) f ++ t) (drop-length l) ∙ append-nil (tabulate (length l) f)

-- ---- from a list that is long enough, and from one that is as long
pub filled_from-enough : (xs bs : List ℕ) → length bs ≤ length xs → filled_from xs bs ≡ take (length bs) xs
filled_from-enough xs [] h = refl
filled_from-enough [] (b ∷ bs) h = absurd (omega arith)
filled_from-enough (x ∷ xs) (b ∷ bs) h = ap (λ l. x ∷ l) (filled_from-enough xs bs (omega arith))

pub filled_from-whole : (xs bs : List ℕ) → length xs ≡ length bs → filled_from xs bs ≡ xs
filled_from-whole xs bs e = filled_from-enough xs bs (omega arith) ∙ take_all (length bs) xs (omega arith)
