-- Each test of a schedule asks a column of the array with an input from 1 to q − 1; and a cell of q or more answers every entry as q − 1 does.
-- Assumes nothing.
use mathlib.Core.Path.{◌≡◌, refl, sym, ap, ◌∙◌}
use mathlib.Core.Bool.{Bool, true, false, ◌&&◌, and-false}
use mathlib.Core.List.{List, map}
use Prim.Native.Nat.{ℕ, suc, ◌-◌, ◌*◌, ◌^◌, ◌≤◌, ◌<◌, min}
use native.Mathlib.Omega.{arith}
use lib.Dec.{leb, ltb}
use lib.ListN.{length, get_or, length-map, get_or-map}
use borrow.Author.Tests.{leb-true, leb-false, le-leb, lt-leb, ltb-true}
use Rattle.parity.specs.Match.{answers, match_byte}
use Rattle.parity.specs.Shape.{levels, checks, columns}
use Rattle.parity.specs.Matrix.{support}
use Rattle.parity.specs.Questions.{Taken}
use Rattle.parity.specs.declared.Shape.{Shape}
use Rattle.parity.proofs.Taken.{limits}
use Rattle.schedule.specs.Schedule.{Entry, factors, within, ending, test_vector, of_digit, sweep, of_check, tests, dead_opening, shorted_opening, schedule}
use Rattle.schedule.specs.Tally.{fresh_tally}
use Rattle.schedule.specs.Claims.{CapClaim}
use Rattle.schedule.proofs.All.{All, all-at, all-turn, all-joined, all-at_last, all-pairs}
use Rattle.schedule.proofs.Lookup.{match-entry}
use Rattle.schedule.proofs.Support.{support-below}
use Rattle.schedule.proofs.Factors.{factors-inputs}
use Rattle.schedule.proofs.Length.{entries}
use Rattle.schedule.proofs.Runs.{tally_run-alike}
use Rattle.schedule.proofs.Openings.{columns-some}

pub record Proper (s : Shape) (e : Entry) : Type 0 where
  pub check : e.check < checks s
  pub digit : e.digit < s.digits
  pub column : e.column < columns s
  pub factor : 1 ≤ e.factor
  pub input : e.factor * s.radix ^ e.digit < levels s

pub proper-all : (z : ℕ) (s : Shape) → Taken s → All (Proper s) (tests z s)
unfolding tests of_check sweep of_digit
proper-all z s t =
    all-joined (Proper s) (checks s) (of_check z s) λ ℓ h.
    all-joined (Proper s) (s.digits - z) (λ i. of_digit z s ℓ (support s ℓ) (s.digits - suc i)) λ i l.
    let d : ℕ = s.digits - suc i in
    let lt : d < s.digits = omega (arith, (limits s t).digits_low) in
    all-at_last (Proper s) (ending z)
    (λ e p. record { check = p.check; digit = p.digit; column = p.column; factor = p.factor; input = p.input }) (entries s ℓ (support s ℓ) d)
    (all-pairs (Proper s) (λ j. j < columns s) (λ a. (1 ≤ a) × (a * s.radix ^ d < levels s)) (within ℓ d)
    (λ j a k m. record { check = h; digit = lt; column = k; factor = m.0; input = m.1 }) (support s ℓ) (factors s d) (support-below s t ℓ)
    (factors-inputs s (limits s t).radix_low d lt))

pub tests-proper : (z : ℕ) (s : Shape) → Taken s → (c : ℕ) → c < length (tests z s) → (d : Entry) → Proper s (get_or (tests z s) c d)
tests-proper z s t = all-at (Proper s) (tests z s) (proper-all z s t)

-- no input tells a cell from its cap: one below q is at most both or neither, and to another both say no
answers-capped : (q x v : ℕ) → answers q x (min v (q - 1)) ≡ answers q x v
answers-capped q x v = go (ltb x q) refl
  where
    less : x < q → (b : Bool) → leb x v ≡ b → leb x (min v (q - 1)) ≡ b
    less h true e = le-leb x (min v (q - 1)) (omega (arith, leb-true x v e))
    less h false e = lt-leb x (min v (q - 1)) (omega (arith, leb-false x v e))

    go : (b : Bool) → ltb x q ≡ b → leb x (min v (q - 1)) && b ≡ leb x v && b
    go true e = ap (λ t. t && true) (less (ltb-true x q e) (leb x v) refl)
    go false e = and-false (leb x (min v (q - 1))) ∙ sym (and-false (leb x v))

cell-capped : (c : ℕ) (row : List ℕ) (j : ℕ) → get_or (map (λ v. min v c) row) j 0 ≡ min (get_or row j 0) c
cell-capped c row j =
    let nothing : 0 ≡ min 0 c = omega arith in
    ap (get_or (map (λ v. min v c) row) j) nothing ∙ get_or-map (λ v. min v c) row j 0

-- so the row answers each entry alike
pub match-capped :
    (s : Shape) → Taken s → (row : List ℕ) → length row ≡ columns s → (e : Entry) → e.column < columns s
    → match_byte (levels s) (test_vector s e) row ≡ match_byte (levels s) (test_vector s e) (map (λ v. min v (levels s - 1)) row)
match-capped s t row sized e lt =
    rw (
      match-entry s t e row lt sized,
      match-entry s t e (map (λ v. min v (levels s - 1)) row) lt (length-map row (λ v. min v (levels s - 1)) ∙ sized),
      cell-capped (levels s - 1) row e.column,
      answers-capped (levels s) (e.factor * s.radix ^ e.digit) (get_or row e.column 0),
    )

pub cap_claim : CapClaim
unfolding schedule
cap_claim z s t line row sized =
    let capped : List ℕ = map (λ v. min v (levels s - 1)) row in
    let first : 0 < columns s = columns-some s t in
    tally_run-alike s line row capped (schedule z s) (
      match-capped s t row sized dead_opening first,
      (
        match-capped s t row sized (shorted_opening s) first,
        all-turn (Proper s) _ (λ e p. match-capped s t row sized e p.column) (tests z s) (proper-all z s t),
      ),
    )
    fresh_tally
