-- The changed digits of two rows: where the digits of two rows of one length differ, collected along the columns. Assumes nothing.
use mathlib.Core.Path.{◌≡◌, refl, ap, ap₂}
use mathlib.Core.Bool.{Bool, true, false, cond}
use mathlib.Core.List.{List, [], ◌∷◌, map}
use Prim.Native.Nat.{ℕ, suc, ◌+◌, ◌*◌, ◌≤◌, ◌<◌, suc-le-suc}
use native.Mathlib.Nat.{suc_inj, zero-lt-suc, le_refl, le-suc, le_trans}
use native.Mathlib.Decide.{ℕ_discrete}
use native.Mathlib.Omega.{arith}
use lib.Dec.{eqb}
use lib.ListN.{length}
use borrow.Author.Tests.{ne_eqb}
use Rattle.parity.specs.Lists.{sum_over, differences}
use Rattle.parity.specs.Matrix.{bit}
use Rattle.parity.proofs.Remainders.{Same, same-below}
use Rattle.parity.proofs.Sums.{check_sum}
use Rattle.parity.proofs.ListLaws.{All, Each, Pairwise, pairs-head, pairs-tail}

-- a changed digit and its column
pub record Change (ρ : ℕ) : Type 0 where
  pub column : ℕ
  pub old : ℕ
  pub new : ℕ
  pub changed : Same ρ old new → ⊥

-- 1 where check row ℓ holds the changed digit, else 0
abbrev pub held : {ρ : ℕ} → ℕ → Change ρ → ℕ
held ℓ e = bit ℓ e.column

-- what holds of each two
abbrev pub AllPairs : {A : Type 0} → (A → A → Type 0) → List A → Type 0
AllPairs R [] = Unit {0}
AllPairs R (e ∷ es) = All (R e) es × AllPairs R es

-- The changed digits where f is the digit of a cell: no more of them than changed cells, and none only where all digits agree; they alone
-- make the check sums differ; what holds of the columns holds of theirs.
pub record Changes (ρ : ℕ) (f : ℕ → ℕ) (cs xs ys : List ℕ) : Type 1 where
  pub entries : List (Change ρ)
  pub few : length entries ≤ differences xs ys
  pub agree : length entries ≡ 0 → map f xs ≡ map f ys
  pub sums :
      (ℓ : ℕ) → sum_over entries (λ e. held ℓ e * e.old) + check_sum f ℓ cs ys
      ≡ sum_over entries (λ e. held ℓ e * e.new) + check_sum f ℓ cs xs
  pub each : (P : ℕ → Type 0) → Each P cs → All (λ e. P e.column) entries
  pub pairs : (R : ℕ → ℕ → Type 0) → Pairwise R cs → AllPairs (λ d e. R d.column e.column) entries

grows : (t : Bool) (n : ℕ) → n ≤ cond t n (suc n)
grows true n = le_refl n
grows false n = le-suc n

pub changes :
    {ρ : ℕ} (f : ℕ → ℕ) → ((v : ℕ) → f v < ρ) → (cs xs ys : List ℕ) → length xs ≡ length cs → length ys ≡ length cs → Changes ρ f cs xs ys
changes f below [] [] [] ex ey =
    record { entries = []; few = omega arith; agree = λ none. refl; sums = λ ℓ. refl; each = λ P h. tt; pairs = λ R h. tt }
changes f below [] [] (y ∷ ys) ex ey = absurd (omega arith)
changes f below [] (x ∷ xs) ys ex ey = absurd (omega arith)
changes f below (c ∷ cs) [] ys ex ey = absurd (omega arith)
changes f below (c ∷ cs) (x ∷ xs) [] ex ey = absurd (omega arith)
changes {ρ} f below (c ∷ cs) (x ∷ xs) (y ∷ ys) ex ey =
    go (ℕ_discrete (f x) (f y)) (changes f below cs xs ys (suc_inj ex) (suc_inj ey))
  where
    go : Dec (f x ≡ f y) → Changes ρ f cs xs ys → Changes ρ f (c ∷ cs) (x ∷ xs) (y ∷ ys)
    go (yes same) rest =
        record {
          entries = rest.entries;
          few = le_trans rest.few (grows (eqb x y) (differences xs ys));
          agree = λ none. ap₂ ◌∷◌ same (rest.agree none);
          sums = λ ℓ. omega (arith, rest.sums ℓ, ap (λ d. bit ℓ c * d) same);
          each = λ P h. rest.each P (λ j lt. h (suc j) (suc-le-suc lt));
          pairs = λ R h. rest.pairs R (pairs-tail R c cs h);
        }
    go (no apart) rest =
        record {
          entries = record { column = c; old = f x; new = f y; changed = λ same. apart (same-below (below x) (below y) same) } ∷ rest.entries;
          few = rw (ne_eqb x y (λ e. apart (ap f e))) (suc-le-suc rest.few);
          agree = λ none. absurd (omega arith);
          sums = λ ℓ. omega (arith, rest.sums ℓ);
          each = λ P h. (h 0 (zero-lt-suc (length cs)), rest.each P (λ j lt. h (suc j) (suc-le-suc lt)));
          pairs = λ R h. (rest.each (R c) (pairs-head R c cs h), rest.pairs R (pairs-tail R c cs h));
        }
