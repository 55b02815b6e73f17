-- The two openings: a row with a sound line matches the first and not the second, and is left as it was; of a row whose line isn't sound one of them sees it,
-- and no test takes its flag back. Without that one nothing shows it where its match bytes add up to 0 mod ρ. Assumes nothing.
use mathlib.Core.Path.{◌≡◌, refl, sym, ap, ◌∙◌}
use mathlib.Core.Logic.{◌≢◌}
use mathlib.Core.Bool.{Bool, true, false, cond, not}
use mathlib.Core.List.{List, [], ◌∷◌}
use Prim.Native.Nat.{ℕ, suc, ◌-◌, ◌*◌, ◌%◌, ◌^◌, ◌<◌}
use native.Mathlib.Nat.{zero-mul, one-mul, mul-zero, mul-one, zero-mod, le_refl}
use native.Mathlib.Omega.{arith}
use lib.Dec.{eqb, leb-zero}
use lib.ListN.{length, get_or}
use borrow.Author.Tests.{eqb-true, eqb-false, eq-eqb}
use Rattle.parity.specs.Lists.{sum_over, sum_to, every_to}
use Rattle.parity.specs.Shape.{digit, levels, largest, redundancy, checks, columns}
use Rattle.parity.specs.Match.{answers, match_byte, line_gives, line_match}
use Rattle.parity.specs.Matrix.{weight, of_weight, column_order, eligible, rule_columns, check_columns, matrix, support}
use Rattle.parity.specs.Questions.{Taken}
use Rattle.parity.specs.declared.Shape.{Shape}
use Rattle.parity.proofs.Comparator.{answers-below, answers-none, line-sound, line-shorted, line_dead}
use Rattle.parity.proofs.ListLaws.{every_to-passes}
use Rattle.parity.proofs.Remainders.{same-zero, same-times, same-trans, same-eq, zero_same}
use Rattle.parity.proofs.Sizes.{two-levels}
use Rattle.parity.proofs.Taken.{limits}
use Rattle.schedule.specs.Schedule.{Entry, factors, of_digit, sweep, of_check, tests, opening, dead_opening, shorted_opening, openings, schedule}
use Rattle.schedule.specs.Schedule.{unit_vector, test_vector}
use Rattle.schedule.specs.Tally.{flagged, reset, tally_step, tally_run}
use Rattle.schedule.specs.Claims.{UnsoundClaim, UnseenClaim, TestsAloneClaim}
use Rattle.schedule.proofs.Sums.{cond_same, sum-times}
use Rattle.schedule.proofs.Lookup.{match-entry}
use Rattle.schedule.proofs.Length.{entries, entries-length}
use Rattle.schedule.proofs.Digit.{tally, matched}
use Rattle.schedule.proofs.Sweep.{reading, readings, is_quiet, check_quiet, tests-run}

pub columns-some : (s : Shape) → Taken s → 0 < columns s
unfolding columns
columns-some s t = omega (arith, (limits s t).width_low)

-- ---- what the cells say

-- every cell answers 1 to the input 0 ..
pub dead-said : (s : Shape) → Taken s → (row : List ℕ) → length row ≡ columns s → match_byte (levels s) (test_vector s dead_opening) row ≡ 1
dead-said s t row sized =
    match-entry s t dead_opening row (columns-some s t) sized
    ∙ ap (λ x. cond (answers (levels s) x (get_or row 0 0)) 1 0) (zero-mul (s.radix ^ 0))
    ∙ ap (λ b. cond b 1 0) (answers-below (levels s) 0 (get_or row 0 0) (omega (arith, two-levels s t)) ∙ leb-zero (get_or row 0 0))

-- .. and 0 to q
pub shorted-said : (s : Shape) → Taken s → (row : List ℕ) → length row ≡ columns s → match_byte (levels s) (test_vector s (shorted_opening s)) row ≡ 0
unfolding levels
shorted-said s t row sized =
    match-entry s t (shorted_opening s) row (columns-some s t) sized
    ∙ ap (λ x. cond (answers (levels s) x (get_or row 0 0)) 1 0) (one-mul (s.radix ^ s.digits))
    ∙ ap (λ b. cond b 1 0) (answers-none (levels s) (s.radix ^ s.digits) (get_or row 0 0) (le_refl (s.radix ^ s.digits)))

-- ---- what an opening does

module _ (s : Shape) (line : ℕ) (row : List ℕ) where
  -- a row is flagged where its match byte is not that of a sound line
  pub opening-step :
      (byte d a c f : ℕ)
      → tally_step s line row (opening byte d a) (tally c f) ≡ tally c (cond (eqb (matched s line row (opening byte d a)) byte) f 1)
  unfolding tally_step flagged reset
  opening-step byte d a c f = ap (tally c) (turned (eqb (matched s line row (opening byte d a)) byte))
    where
      turned : (b : Bool) → cond (not b) 1 f ≡ cond b f 1
      turned true = refl
      turned false = refl

  -- so where that byte is known
  pub opening-made :
      (byte d a said : ℕ) → matched s line row (opening byte d a) ≡ said
      → (c f : ℕ) → tally_step s line row (opening byte d a) (tally c f) ≡ tally c (cond (eqb said byte) f 1)
  opening-made byte d a said e c f = opening-step byte d a c f ∙ ap (λ m. tally c (cond (eqb m byte) f 1)) e

-- ---- a sound line

pub openings-sound :
    (s : Shape) → Taken s → (row : List ℕ) → length row ≡ columns s → (c f : ℕ) → tally_run s 0 row (openings s) (tally c f) ≡ tally c f
unfolding line_match
openings-sound s t row sized c f =
    ap (tally_step s 0 row (shorted_opening s)) (opening-made s 0 row 1 0 0 1 (line-sound _ ∙ dead-said s t row sized) c f)
    ∙ opening-made s 0 row 0 s.digits 1 0 (line-sound _ ∙ shorted-said s t row sized) c f

-- ---- any other

-- a line gives the same byte to every entry, whatever the cells
abbrev Gives : Shape → ℕ → List ℕ → ℕ → Type 0
Gives s line row byte = (e : Entry) → matched s line row e ≡ byte

dead-gives : (s : Shape) (line : ℕ) → line ≢ 0 → line ≢ 2 → (row : List ℕ) → Gives s line row 0
unfolding line_match
dead-gives s line h k row e = line_dead line _ h k

shorted-gives : (s : Shape) (row : List ℕ) → Gives s 2 row 1
unfolding line_match
shorted-gives s row e = line-shorted _

openings-unsound : (s : Shape) (line : ℕ) → line ≢ 0 → (row : List ℕ) (c f : ℕ) → tally_run s line row (openings s) (tally c f) ≡ tally c 1
openings-unsound s line h row c f = go (eqb line 2) refl
  where
    dead : Gives s line row 0 → tally_run s line row (openings s) (tally c f) ≡ tally c 1
    dead gives =
        ap (tally_step s line row (shorted_opening s)) (opening-made s line row 1 0 0 0 (gives dead_opening) c f)
        ∙ opening-made s line row 0 s.digits 1 0 (gives (shorted_opening s)) c 1

    shorted : Gives s line row 1 → tally_run s line row (openings s) (tally c f) ≡ tally c 1
    shorted gives =
        ap (tally_step s line row (shorted_opening s)) (opening-made s line row 1 0 0 1 (gives dead_opening) c f)
        ∙ opening-made s line row 0 s.digits 1 1 (gives (shorted_opening s)) c f

    go : (b : Bool) → eqb line 2 ≡ b → tally_run s line row (openings s) (tally c f) ≡ tally c 1
    go true e = shorted (λ entry. ap (λ line. matched s line row entry) (eqb-true line 2 e) ∙ shorted-gives s row entry)
    go false e = dead (dead-gives s line h (eqb-false line 2 e) row)

-- the tests leave the flag
pub unsound_claim : UnsoundClaim
unfolding schedule
unsound_claim z s t line h row =
    ap (tally_run s line row (tests z s)) (openings-unsound s line h row 0 0)
    ∙ tests-run z s t line row 1
    ∙ ap (tally 0) (cond_same (every_to (checks s) (check_quiet z s t line row)) 1)

-- ---- what the tests count of it

module _ (z : ℕ) (s : Shape) (t : Taken s) (line : ℕ) (row : List ℕ) (byte : ℕ) (gives : Gives s line row byte) where
  sum-given : (es : List Entry) → sum_over es (matched s line row) ≡ length es * byte
  sum-given [] = sym (zero-mul byte)
  sum-given (e ∷ es) = omega (arith, gives e, sum-given es)

  -- a multiple of the number of columns
  readings-given : (ℓ : ℕ) (js : List ℕ) (i : ℕ) → readings s line row ℓ js i ≡ length js * byte * sum_to i (λ i. length (factors s (s.digits - suc i)))
  readings-given ℓ js i =
      sum-times i (length js * byte) (λ i. reading s line row ℓ js (s.digits - suc i)) (λ i. length (factors s (s.digits - suc i)))
      (λ i l. let d : ℕ = s.digits - suc i in
      sum-given (entries s ℓ js d) ∙ ap (λ n. n * byte) (entries-length s ℓ js d) ∙ omega arith)

  -- so where ρ divides that, the tests leave no trace
  unseen :
      ((ℓ : ℕ) → ℓ < checks s → (length (support s ℓ) * byte) % s.radix ≡ 0) → tally_run s line row (tests z s) (tally 0 0) ≡ tally 0 0
  unseen divided =
      tests-run z s t line row 0
      ∙ ap (λ b. tally 0 (cond b 0 1))
      (every_to-passes (checks s) (check_quiet z s t line row)
      (λ ℓ h. every_to-passes (s.digits - z) (is_quiet s line row ℓ (support s ℓ))
      (λ i l. let n : ℕ = sum_to (suc i) (λ i. length (factors s (s.digits - suc i))) in
      eq-eqb _ 0
      (zero_same
      (same-trans (same-eq (readings-given ℓ (support s ℓ) (suc i)))
      (same-trans (same-eq {b = n * (length (support s ℓ) * byte)} (omega arith))
      (same-trans (same-times n (same-zero (divided ℓ h))) (same-eq (omega arith)))))))))

pub unseen_claim : UnseenClaim
unseen_claim =
    record {
      dead = λ z s t line h k row.
          let gives = dead-gives s line h k row in
          ap (tally_run s line row (tests z s)) (opening-made s line row 0 s.digits 1 0 (gives (shorted_opening s)) 0 0)
          ∙ unseen z s t line row 0 gives (λ ℓ l. ap (λ n. n % s.radix) (mul-zero (length (support s ℓ))) ∙ zero-mod s.radix);
      shorted = λ z s t divided row.
          let gives = shorted-gives s row in
          ap (tally_run s 2 row (tests z s)) (opening-made s 2 row 1 0 0 1 (gives dead_opening) 0 0)
          ∙ unseen z s t 2 row 1 gives (λ ℓ l. ap (λ n. n % s.radix) (mul-one (length (support s ℓ))) ∙ divided ℓ l);
    }

pub tests_alone_claim : TestsAloneClaim
unfolding schedule tests of_check sweep of_digit factors test_vector unit_vector tally_step flagged reset line_match line_gives match_byte levels checks columns
    redundancy largest weight column_order of_weight eligible rule_columns check_columns matrix support digit
tests_alone_claim = record { columns = refl; unseen = refl; seen = refl }
