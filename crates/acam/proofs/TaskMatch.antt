-- The match byte of a task lookup: the check columns, fed 0, always answer 1, so it is that of the first k cells. Assumes nothing.
use mathlib.Core.Path.{◌≡◌, refl, sym, ◌∙◌, ap, ap₂}
use mathlib.Core.Bool.{true, cond, ◌&&◌}
use mathlib.Core.List.{List, [], ◌∷◌, ◌++◌}
use Prim.Native.Nat.{ℕ, ◌+◌, ◌<◌}
use native.Mathlib.Nat.{zero-add}
use native.Mathlib.Omega.{arith}
use lib.ListN.{length, take, replicate}
use borrow.Author.Tests.{le-leb}
use Rattle.parity.specs.Match.{answers, all_answer, match_byte}
use Rattle.parity.proofs.Comparator.{answers-below}

module _ (q : ℕ) (some : 0 < q) where
  zeros-answer : (row : List ℕ) → all_answer q (replicate (length row) 0) row ≡ true
  zeros-answer [] = refl
  zeros-answer (v ∷ row) = ap₂ ◌&&◌ (answers-below q 0 v some ∙ le-leb 0 v (omega arith)) (zeros-answer row)

  answer-first :
      (inputs row : List ℕ) (r : ℕ) → length row ≡ length inputs + r
      → all_answer q (inputs ++ replicate r 0) row ≡ all_answer q inputs (take (length inputs) row)
  answer-first [] row r e = ap (λ n. all_answer q (replicate n 0) row) (sym (e ∙ zero-add r)) ∙ zeros-answer row
  answer-first (x ∷ inputs) [] r e = absurd (omega arith)
  answer-first (x ∷ inputs) (v ∷ row) r e = ap (λ t. answers q x v && t) (answer-first inputs row r (omega arith))

  pub task-match :
      (k r : ℕ) (inputs row : List ℕ) → length inputs ≡ k → length row ≡ k + r
      → match_byte q (inputs ++ replicate r 0) row ≡ match_byte q inputs (take k row)
  unfolding match_byte
  task-match k r inputs row ek er =
      ap (λ t. cond t 1 0) (answer-first inputs row r (er ∙ ap (λ n. n + r) (sym ek)) ∙ ap (λ n. all_answer q inputs (take n row)) ek)
