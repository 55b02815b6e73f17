-- The columns of a check row, one after the other: the ones counted, and the next one found. Assumes nothing.
use mathlib.Core.Path.{◌≡◌, refl, sym, ap, ◌∙◌}
use mathlib.Core.Bool.{Bool, true, false}
use mathlib.Core.List.{List, [], ◌∷◌}
use Prim.Native.Nat.{ℕ, zero, suc, ◌+◌, ◌-◌, ◌*◌, ◌/◌, ◌%◌, ◌^◌, ◌≤◌, ◌<◌}
use native.Mathlib.Numerals.{add-one}
use native.Mathlib.Omega.{arith}
use lib.Bits.{bit_and, and_high}
use lib.Dec.{eqb}
use lib.ListN.{length, get_or, take, drop, take-append-drop}
use lib.Pow.{pow_pos, pow-add}
use lib.Seq.{take_all}
use borrow.Author.Tests.{eqb-true, eqb-false, eq-eqb, ne_eqb}
use Rattle.parity.specs.Lists.{sum_over, sum_to}
use Rattle.parity.specs.Shape.{digit}
use Rattle.parity.specs.Matrix.{bit, places_from}
use Rattle.parity.proofs.Sums.{bit_below, bit-zero}
use Rattle.parity.proofs.ListLaws.{sum-append, sum-take-suc}
use Rattle.parity.proofs.MatrixOnes.{places-length}
use Rattle.shape.proofs.Search.{search-found, search-missed, search-ended}
pub use Rattle.cycle_place.specs.Survey.{held_from}

-- how many of the first j columns have a one in check row ℓ
abbrev pub ones_before : List ℕ → ℕ → ℕ → ℕ
ones_before cs ℓ j = length (places_from 0 ℓ (take j cs))

-- a check row has at most a one in each column ..
bits-high : (ℓ : ℕ) (cs : List ℕ) → sum_over cs (bit ℓ) ≤ length cs
bits-high ℓ [] = omega arith
bits-high ℓ (c ∷ cs) = omega (arith, bit_below ℓ c, bits-high ℓ cs)

pub places-high : (ℓ : ℕ) (cs : List ℕ) → length (places_from 0 ℓ cs) ≤ length cs
places-high ℓ cs = rw (places-length 0 ℓ cs) (bits-high ℓ cs)

-- .. and where no check row has more than 255, so many have at most 255 each
pub rows-high : (cs : List ℕ) → ((l : ℕ) → length (places_from 0 l cs) ≤ 255) → (ℓ : ℕ) → sum_to ℓ (λ l. length (places_from 0 l cs)) ≤ 255 * ℓ
rows-high cs h zero = omega arith
rows-high cs h (suc ℓ) = omega (arith, rows-high cs h ℓ, h ℓ)

-- the bit as the code takes it out of a column's number
pub bit-tested : (ℓ c bound number : ℕ) → bound ≡ 2 ^ ℓ → number ≡ c → number / bound % 2 ≡ bit ℓ c
unfolding digit
bit-tested ℓ c bound number e f = rw (e, f)

-- what a column shares with 2^ℓ, the mask of check row ℓ, tells the bit too
masked : (ℓ c mask : ℕ) → mask ≡ 2 ^ ℓ → bit_and c mask ≡ bit ℓ c * 2 ^ ℓ
unfolding digit
masked ℓ c mask e =
    let top : mask ≡ 2 ^ (1 + ℓ) - 2 ^ ℓ = omega (arith, e, pow-add 2 1 ℓ) in
    ap (bit_and c) top ∙ and_high c 1 ℓ

pub masked-one : (ℓ c mask : ℕ) → mask ≡ 2 ^ ℓ → (bit_and c mask ≡ 0 → ⊥) → bit ℓ c ≡ 1
masked-one ℓ c mask e some = go (bit ℓ c) (bit_below ℓ c) (masked ℓ c mask e)
  where
    go : (b : ℕ) → b < 2 → bit_and c mask ≡ b * 2 ^ ℓ → b ≡ 1
    go zero h q = absurd (some (omega arith))
    go (suc b) h q = omega arith

pub masked-none : (ℓ c mask : ℕ) → mask ≡ 2 ^ ℓ → bit_and c mask ≡ 0 → bit ℓ c ≡ 0
masked-none ℓ c mask e none = go (bit ℓ c) (sym (masked ℓ c mask e) ∙ none)
  where
    go : (b : ℕ) → b * 2 ^ ℓ ≡ 0 → b ≡ 0
    go zero q = refl
    go (suc b) q = absurd (omega (arith, pow_pos ℓ))

-- ---- one column more

pub before-next : (cs : List ℕ) (ℓ j : ℕ) → j < length cs → ones_before cs ℓ (suc j) ≡ ones_before cs ℓ j + bit ℓ (get_or cs j 0)
before-next cs ℓ j h =
    omega (arith, places-length 0 ℓ (take (suc j) cs), sum-take-suc (bit ℓ) cs j 0 h, places-length 0 ℓ (take j cs))

pub before-all : (cs : List ℕ) (ℓ j : ℕ) → length cs ≤ j → ones_before cs ℓ j ≡ length (places_from 0 ℓ cs)
before-all cs ℓ j h = ap (λ ds. length (places_from 0 ℓ ds)) (take_all j cs h)

-- no more of them than in all
pub before-high : (cs : List ℕ) (ℓ j : ℕ) → ones_before cs ℓ j ≤ length (places_from 0 ℓ cs)
before-high cs ℓ j =
    omega (
      arith,
      places-length 0 ℓ (take j cs),
      places-length 0 ℓ cs ∙ ap (λ ds. sum_over ds (bit ℓ)) (sym (take-append-drop j cs)),
      sum-append (bit ℓ) (take j cs) (drop j cs),
    )

-- ---- the search

-- whether column j has a one in check row ℓ
abbrev holds : List ℕ → ℕ → ℕ → Bool
holds cs ℓ = λ j. eqb (bit ℓ (get_or cs j 0)) 1

module _ (cs : List ℕ) (ℓ j : ℕ) (h : j < length cs) where
  pub held-here : bit ℓ (get_or cs j 0) ≡ 1 → held_from cs ℓ j ≡ j
  held-here one = search-found (holds cs ℓ) (length cs) j h (eq-eqb (bit ℓ (get_or cs j 0)) 1 one)

  pub held-later : (bit ℓ (get_or cs j 0) ≡ 1 → ⊥) → held_from cs ℓ j ≡ held_from cs ℓ (j + 1)
  held-later none = search-missed (holds cs ℓ) (length cs) j h (ne_eqb (bit ℓ (get_or cs j 0)) 1 none)

pub held_none : (cs : List ℕ) (ℓ j : ℕ) → j ≡ length cs → held_from cs ℓ j ≡ j
held_none cs ℓ j e = rw e (search-ended (holds cs ℓ) (length cs))

-- column j has a one in check row ℓ, and none stands between i and it
pub record Held (cs : List ℕ) (ℓ i j : ℕ) : Type 0 where
  pub column : j < length cs
  pub one : bit ℓ (get_or cs j 0) ≡ 1
  pub before : ones_before cs ℓ j ≡ ones_before cs ℓ i

-- the search finds such a column where the check row has a one from i on
pub held_found :
    (cs : List ℕ) (ℓ n i : ℕ) → i + n ≡ length cs → ones_before cs ℓ i < length (places_from 0 ℓ cs) → Held cs ℓ i (held_from cs ℓ i)
held_found cs ℓ zero i e h = absurd (omega (arith, before-all cs ℓ i (omega arith)))
held_found cs ℓ (suc n) i e h = go (eqb (bit ℓ (get_or cs i 0)) 1) refl (held_found cs ℓ n (suc i) (omega arith))
  where
    lt : i < length cs
    lt = omega arith

    go :
        (t : Bool) → eqb (bit ℓ (get_or cs i 0)) 1 ≡ t
        → (ones_before cs ℓ (suc i) < length (places_from 0 ℓ cs) → Held cs ℓ (suc i) (held_from cs ℓ (suc i))) → Held cs ℓ i (held_from cs ℓ i)
    go true q rest =
        let one = eqb-true (bit ℓ (get_or cs i 0)) 1 q in
        rw (held-here cs ℓ i lt one) (record { column = lt; one = one; before = refl })
    go false q rest =
        let none = eqb-false (bit ℓ (get_or cs i 0)) 1 q in
        let same : ones_before cs ℓ (suc i) ≡ ones_before cs ℓ i = omega (arith, before-next cs ℓ i lt, bit-zero ℓ (get_or cs i 0) none) in
        let found = rest (omega arith) in
        rw (held-later cs ℓ i lt none, add-one) (record { column = found.column; one = found.one; before = found.before ∙ same })

-- .. and only there
pub held-some :
    (cs : List ℕ) (ℓ n i : ℕ) → i + n ≡ length cs → held_from cs ℓ i < length cs → ones_before cs ℓ i < length (places_from 0 ℓ cs)
held-some cs ℓ zero i e h = absurd (omega (arith, held_none cs ℓ i (omega arith)))
held-some cs ℓ (suc n) i e h = go (eqb (bit ℓ (get_or cs i 0)) 1) refl (held-some cs ℓ n (suc i) (omega arith))
  where
    lt : i < length cs
    lt = omega arith

    go :
        (t : Bool) → eqb (bit ℓ (get_or cs i 0)) 1 ≡ t
        → (held_from cs ℓ (suc i) < length cs → ones_before cs ℓ (suc i) < length (places_from 0 ℓ cs)) → ones_before cs ℓ i < length (places_from 0 ℓ cs)
    go true q rest = omega (arith, before-next cs ℓ i lt, eqb-true (bit ℓ (get_or cs i 0)) 1 q, before-high cs ℓ (suc i))
    go false q rest =
        let none = eqb-false (bit ℓ (get_or cs i 0)) 1 q in
        let same : held_from cs ℓ i ≡ held_from cs ℓ (suc i) = held-later cs ℓ i lt none ∙ ap (held_from cs ℓ) (add-one i) in
        omega (arith, before-next cs ℓ i lt, bit-zero ℓ (get_or cs i 0) none, rest (omega (arith, same, h)))
