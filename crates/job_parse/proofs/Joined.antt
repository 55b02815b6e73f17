-- Lists of questions, one asked after the other: the first no is that of the first list that has one. Assumes nothing.
use mathlib.Core.Path.{◌≡◌, refl, sym, ◌∙◌, ap}
use mathlib.Core.Logic.{⊎_elim}
use mathlib.Core.Bool.{true, and-eq-true_iff}
use mathlib.Core.List.{List, [], ◌∷◌, ◌++◌}
use Prim.Native.Nat.{ℕ, zero, suc, ◌+◌, ◌≤◌, ◌<◌}
use native.Mathlib.Nat.{le_of_suc-le-suc, eq-or-lt_of_le}
use native.Mathlib.Numerals.{add-one}
use native.Mathlib.Omega.{arith}
use lib.Dec.{ltb}
use Rattle.parity.specs.Lists.{joined}
use Rattle.parity.specs.Questions.{Question, first_no}
use Rattle.shape.proofs.Refusals.{numbered, first_rest, first-none, first_found}

numbered-append : (qs more : List Question) → numbered qs ≡ true → numbered more ≡ true → numbered (qs ++ more) ≡ true
numbered-append [] more n m = m
numbered-append (q ∷ qs) more n m =
    let both = (and-eq-true_iff (ltb 0 q.number) (numbered qs)).0 n in
    (and-eq-true_iff (ltb 0 q.number) (numbered (qs ++ more))).1 (both.0, numbered-append qs more both.1 m)

module _ (f : ℕ → List Question) (named : (i : ℕ) → numbered (f i) ≡ true) where
  numbered-joined : (i : ℕ) → numbered (joined i f) ≡ true
  numbered-joined zero = refl
  numbered-joined (suc i) = numbered-append (joined i f) (f i) (numbered-joined i) (named i)

  -- after lists that have no no, the next one's ..
  next-first : (i : ℕ) → first_no (joined i f) ≡ 0 → first_no (joined (suc i) f) ≡ first_no (f i)
  next-first i e = first_rest (joined i f) (f i) (numbered-joined i) e

  -- .. which the lists after it leave
  kept : (d i n : ℕ) → 0 < n → i ≤ d → first_no (joined i f) ≡ n → first_no (joined d f) ≡ n
  kept zero i n pos h e = let none : 0 ≡ i = omega arith in ap (λ k. first_no (joined k f)) none ∙ e
  kept (suc d) i n pos h e =
      ⊎_elim
      (λ (q : i ≡ suc d). ap (λ k. first_no (joined k f)) (sym q) ∙ e)
      (λ (l : i < suc d). first_found (joined d f) (f d) n pos (kept d i n pos (omega arith) e))
      (eq-or-lt_of_le h)

  pub joined-stops : (d i n : ℕ) → 0 < n → i < d → first_no (joined i f) ≡ 0 → first_no (f i) ≡ n → first_no (joined d f) ≡ n
  joined-stops d i n pos h e q = kept d (suc i) n pos h (next-first i e ∙ q)

  pub joined-passes : (i : ℕ) → first_no (joined i f) ≡ 0 → first_no (f i) ≡ 0 → first_no (joined (i + 1) f) ≡ 0
  joined-passes i e q = ap (λ k. first_no (joined k f)) (add-one i) ∙ next-first i e ∙ q

  -- where none of them has a no, none has
  pub joined-each : (d i : ℕ) → i < d → first_no (joined d f) ≡ 0 → first_no (f i) ≡ 0
  joined-each zero i h e = absurd (omega arith)
  joined-each (suc d) i h e =
      let both = first-none (joined d f) (f d) (numbered-joined d) e in
      ⊎_elim
      (λ (q : i ≡ d). ap (λ k. first_no (f k)) q ∙ both.1)
      (λ (l : i < d). joined-each d i l both.0)
      (eq-or-lt_of_le (le_of_suc-le-suc h))
