-- The match rule of an array with q levels: for an input below q, and for a cell below q, it is the comparison alone, and to input q every cell answers 0;
-- so a row's match byte is that of its comparisons where every input is below q, and 0 where one isn't. And what a line gives. Assumes nothing.
use mathlib.Core.Path.{◌≡◌, refl, ap, ap₂, ◌∙◌}
use mathlib.Core.Logic.{◌≢◌}
use mathlib.Core.Bool.{Bool, true, false, cond, ◌&&◌, and-true, and-false}
use mathlib.Core.List.{List, [], ◌∷◌}
use Prim.Native.Nat.{ℕ, ◌≤◌, ◌<◌}
use native.Mathlib.Omega.{arith}
use lib.Dec.{eqb, leb, ltb}
use lib.ListN.{length}
use borrow.Author.Tests.{leb-true, lt-ltb, le-ltb, ne_eqb}
use Rattle.parity.specs.Lists.{every, alongside}
use Rattle.parity.specs.Match.{answers, all_answer, match_byte, line_gives}

-- ---- one cell

module _ (q input cell : ℕ) where
  pub answers-below : input < q → answers q input cell ≡ leb input cell
  answers-below h = ap (λ t. leb input cell && t) (lt-ltb input q h) ∙ and-true (leb input cell)

  pub answers-none : q ≤ input → answers q input cell ≡ false
  answers-none h = ap (λ t. leb input cell && t) (le-ltb input q h) ∙ and-false (leb input cell)

  pub answers-level : cell < q → answers q input cell ≡ leb input cell
  answers-level h = go (leb input cell) refl
    where
      go : (b : Bool) → leb input cell ≡ b → b && ltb input q ≡ b
      go true e = lt-ltb input q (omega (arith, leb-true input cell e))
      go false e = refl

-- ---- a row

-- every input is below q
abbrev pub reaches : ℕ → List ℕ → Bool
reaches q inputs = every (λ v. ltb v q) inputs

pub all-answer : (q : ℕ) (inputs row : List ℕ) → length inputs ≡ length row → all_answer q inputs row ≡ reaches q inputs && alongside leb inputs row
all-answer q [] [] e = refl
all-answer q [] (v ∷ row) e = refl
all-answer q (x ∷ inputs) [] e = absurd (omega arith)
all-answer q (x ∷ inputs) (v ∷ row) e =
    ap (λ t. answers q x v && t) (all-answer q inputs row (omega arith)) ∙ regroup (leb x v) (ltb x q) (reaches q inputs) (alongside leb inputs row)
  where
    regroup : (a b c d : Bool) → (a && b) && (c && d) ≡ (b && c) && (a && d)
    regroup true true c d = refl
    regroup true false c d = refl
    regroup false true true d = refl
    regroup false true false d = refl
    regroup false false c d = refl

-- so its match byte
pub match-compared :
    (q : ℕ) (inputs row : List ℕ) → length inputs ≡ length row → match_byte q inputs row ≡ cond (reaches q inputs) (cond (alongside leb inputs row) 1 0) 0
unfolding match_byte
match-compared q inputs row e = ap (λ t. cond t 1 0) (all-answer q inputs row e) ∙ go (reaches q inputs) (alongside leb inputs row)
  where
    go : (a b : Bool) → ◌≡◌ {A = ℕ} (cond (a && b) 1 0) (cond a (cond b 1 0) 0)
    go true b = refl
    go false b = refl

pub match-high : (q : ℕ) (inputs row : List ℕ) → match_byte q inputs row ≤ 1
unfolding match_byte
match-high q inputs row = go (all_answer q inputs row)
  where
    go : (b : Bool) → cond b 1 0 ≤ 1
    go true = omega arith
    go false = omega arith

-- ---- a line

pub line-sound : (said : ℕ) → line_gives 0 said ≡ said
unfolding line_gives
line-sound said = refl

pub line-shorted : (said : ℕ) → line_gives 2 said ≡ 1
unfolding line_gives
line-shorted said = refl

pub line_dead : (line said : ℕ) → line ≢ 0 → line ≢ 2 → line_gives line said ≡ 0
unfolding line_gives
line_dead line said h k = ap₂ (λ a b. cond a said (cond b 1 0)) (ne_eqb line 0 h) (ne_eqb line 2 k)

pub line-high : (line said : ℕ) → said ≤ 1 → line_gives line said ≤ 1
unfolding line_gives
line-high line said h = go (eqb line 0) (eqb line 2)
  where
    go : (a b : Bool) → cond a said (cond b 1 0) ≤ 1
    go true b = h
    go false true = omega arith
    go false false = omega arith
