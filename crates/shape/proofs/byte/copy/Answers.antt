-- `shape::byte::copy` meets its contract: the first i bytes are copied, the rest is as it was. Assumes nothing.
use mathlib.Core.Path.{◌≡◌, refl, sym, ◌∙◌, ap}
use mathlib.Core.Logic.{◌⊎◌, inl, inr, ⊎_elim}
use mathlib.Core.List.{List, [], ◌∷◌, ◌++◌}
use Prim.Native.Nat.{ℕ, zero, suc, ◌+◌, ◌≤◌, ◌<◌, min}
use native.Mathlib.Decide.{dec_le}
use native.Mathlib.Nat.{suc_inj, le_of_suc-le-suc, le_of_lt, suc-ne-zero, not-suc-le-zero}
use native.Mathlib.Numerals.{add-one}
use native.Mathlib.Omega.{arith}
use lib.ListN.{length, get_or, take, drop, set, length-set}
use lib.Seq.{take-suc, drop-cons, set_at, append_snoc, length-take-le}
use Rattle.parity.specs.Lists.{filled_from}
use Rattle.shape.proofs.byte.copy.Goals as goal

-- a copy that has come to the end of either list is the whole copy
copied :
    (i : ℕ) (from to : List ℕ) → i ≤ length from → i ≤ length to → (i ≡ length from) ⊎ (i ≡ length to)
    → take i from ++ drop i to ≡ filled_from from to
copied zero [] [] hf ht e = refl
copied zero [] (b ∷ bs) hf ht e = refl
copied zero (x ∷ xs) [] hf ht e = refl
copied zero (x ∷ xs) (b ∷ bs) hf ht e = absurd (⊎_elim (λ p. suc-ne-zero (length xs) (sym p)) (λ p. suc-ne-zero (length bs) (sym p)) e)
copied (suc i) [] to hf ht e = absurd (not-suc-le-zero hf)
copied (suc i) (x ∷ xs) [] hf ht e = absurd (not-suc-le-zero ht)
copied (suc i) (x ∷ xs) (b ∷ bs) hf ht e =
    ap (λ l. x ∷ l)
    (copied i xs bs (le_of_suc-le-suc hf) (le_of_suc-le-suc ht) (⊎_elim (λ p. inl (suc_inj p)) (λ p. inr (suc_inj p)) e))

-- the lesser of two numbers is one of them
least : (n a b : ℕ) → n ≡ min a b → (n ≡ a) ⊎ (n ≡ b)
least n a b e = go (dec_le a b)
  where
    go : Dec (a ≤ b) → (n ≡ a) ⊎ (n ≡ b)
    go (yes h) = inl (omega (arith, e))
    go (no h) = inr (omega (arith, e))

-- one byte more
copied_next :
    (i : ℕ) (from to : List ℕ) → i < length from → i < length to
    → set (take i from ++ drop i to) i (get_or from i 0) ≡ take (i + 1) from ++ drop (i + 1) to
copied_next i from to hf ht =
    ap (λ l. set (take i from ++ l) i (get_or from i 0)) (drop-cons to i 0 ht)
    ∙ set_at (take i from) (get_or to i 0) (drop (suc i) to) (get_or from i 0) i (length-take-le i from (le_of_lt hf))
    ∙ sym (append_snoc (take i from) (get_or from i 0) (drop (suc i) to))
    ∙ ap (λ l. l ++ drop (suc i) to) (sym (take-suc from i 0 hf))
    ∙ ap (λ n. take n from ++ drop n to) (sym (add-one i))

pub loop-i-preserved : goal.loop-i-preserved
loop-i-preserved c =
    let args = c.args in
    let turn = c.loop-i in
    let byte = get_or args.from.now turn.i 0 in (
      length-set turn.to turn.i byte ∙ turn.invariant.0,
      ap (λ l. set l turn.i byte) turn.invariant.1 ∙ copied_next turn.i args.from.now args.to.now (omega arith) (omega arith),
    )

pub returns : goal.returns
returns c =
    let from = c.args.from.now in
    let to = c.args.to.now in
    let i = c.loop-i.i in
    c.loop-i.invariant.1 ∙ copied i from to (omega arith) (omega arith) (least i (length from) (length to) (omega arith))
