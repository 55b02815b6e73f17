-- A whole cycle flags a row of n cells below q with a sound line exactly where a digit sum from z on is not 0: what a sweep has counted at the end of
-- digit s is the sum of v / ρ^s over its columns' cells, which is that of their digits s mod ρ. Assumes nothing.
use mathlib.Core.Path.{◌≡◌, refl, sym, ap, fun_ext, ◌∙◌}
use mathlib.Core.Bool.{Bool, true, false, cond, ◌&&◌, not-eq-not}
use mathlib.Core.List.{List, map}
use Prim.Native.Nat.{ℕ, suc, ◌+◌, ◌-◌, ◌*◌, ◌/◌, ◌%◌, ◌^◌, ◌<◌}
use native.Mathlib.Nat.{div-eq_of_lt}
use native.Mathlib.Omega.{arith}
use lib.Arith.{comp_comp}
use lib.Dec.{eqb, leb}
use lib.ListN.{length, get_or}
use borrow.Author.Tests.{eqb-true, eqb-false}
use Rattle.parity.specs.Lists.{sum_over, every_to}
use Rattle.parity.specs.Shape.{digit, levels, checks, columns}
use Rattle.parity.specs.Matrix.{support}
use Rattle.parity.specs.Codeword.{digit_sum}
use Rattle.parity.specs.Claims.{Below}
use Rattle.parity.specs.Match.{line_match}
use Rattle.parity.specs.Questions.{Taken}
use Rattle.parity.specs.declared.Shape.{Shape}
use Rattle.parity.proofs.Taken.{limits}
use Rattle.parity.proofs.Comparator.{answers-level, line-sound}
use Rattle.parity.proofs.ListLaws.{every_to-at, every_to-passes}
use Rattle.schedule.specs.Schedule.{factors, within, tests, schedule}
use Rattle.schedule.specs.Coarse.{is_balanced_from}
use Rattle.schedule.specs.Tally.{tally_run, fresh_tally}
use Rattle.schedule.specs.Claims.{AfterCycle, FlagClaim}
use Rattle.schedule.proofs.All.{All, all-turn}
use Rattle.schedule.proofs.Sums.{sum-over_each, sum-map, sum-each, sum_same, sum-steps}
use Rattle.schedule.proofs.Lookup.{match-entry}
use Rattle.schedule.proofs.Counting.{answers-count}
use Rattle.schedule.proofs.Support.{support-below}
use Rattle.schedule.proofs.Balanced.{alike, balanced_claim}
use Rattle.schedule.proofs.Openings.{openings-sound, unsound_claim}
use Rattle.schedule.proofs.Digit.{tally, matched}
use Rattle.schedule.proofs.Sweep.{reading, readings, is_quiet, check_quiet, tests-run}

-- tests of the same numbers, counted from either end
every_to-down : (n : ℕ) (p q : ℕ → Bool) → ((i : ℕ) → i < n → p i ≡ q (n - suc i)) → every_to n p ≡ every_to n q
every_to-down n p q same =
    alike (every_to n p) (every_to n q)
    (λ e. every_to-passes n q (λ i l. rw (comp_comp l) at (sym (same (n - suc i) (omega arith)) ∙ every_to-at n p e (n - suc i) (omega arith))))
    (λ e. every_to-passes n p (λ i l. same i l ∙ every_to-at n q e (n - suc i) (omega arith)))

every_to-same : (n : ℕ) (p q : ℕ → Bool) → ((i : ℕ) → i < n → p i ≡ q i) → every_to n p ≡ every_to n q
every_to-same n p q same =
    alike (every_to n p) (every_to n q)
    (λ e. every_to-passes n q (λ i l. sym (same i l) ∙ every_to-at n p e i l))
    (λ e. every_to-passes n p (λ i l. same i l ∙ every_to-at n q e i l))

module _
    (shape : Shape) (t : Taken shape) (row : List ℕ) (sized : length row ≡ columns shape) (below : Below (levels shape) (columns shape) row)
    (ℓ : ℕ) (js : List ℕ) (inside : All (λ j. j < columns shape) js) where
  -- v / ρ^s over the cells of these columns, added up
  abbrev shares : ℕ → ℕ
  shares s = sum_over js (λ j. get_or row j 0 / shape.radix ^ s)

  -- a cell below q is compared and no more
  match-cell : (s j a : ℕ) → j < columns shape → matched shape 0 row (within ℓ s j a) ≡ cond (leb (a * shape.radix ^ s) (get_or row j 0)) 1 0
  unfolding line_match
  match-cell s j a l =
      line-sound _
      ∙ match-entry shape t (within ℓ s j a) row l sized
      ∙ ap (λ b. cond b 1 0) (answers-level (levels shape) (a * shape.radix ^ s) (get_or row j 0) (below j l))

  -- the match bytes of one column ..
  cell-matched :
      (s j : ℕ) → s < shape.digits → j < columns shape
      → sum_over (map (within ℓ s j) (factors shape s)) (matched shape 0 row) + get_or row j 0 / shape.radix ^ suc s ≡ get_or row j 0 / shape.radix ^ s
  cell-matched s j lt l =
      ap (λ x. x + get_or row j 0 / shape.radix ^ suc s)
      (sum-map (matched shape 0 row) (within ℓ s j) (factors shape s)
      ∙ ap (sum_over (factors shape s)) (fun_ext (λ a. match-cell s j a l)))
      ∙ answers-count shape (omega (arith, (limits shape t).radix_low)) s lt (get_or row j 0) (below j l)

  -- .. and of one digit
  digit-matched : (s : ℕ) → s < shape.digits → reading shape 0 row ℓ js s + shares (suc s) ≡ shares s
  digit-matched s lt =
      omega (
        arith,
        sum-over_each (matched shape 0 row) js (λ j. map (within ℓ s j) (factors shape s)),
        sum-each _ _ _ js (all-turn _ _ (λ j. cell-matched s j lt) js inside),
      )

  -- no level has more than b digits; x + x ≡ x says that x is 0
  shares-none : shares shape.digits ≡ 0
  unfolding levels
  shares-none =
      let f : ℕ → ℕ = λ j. get_or row j 0 / shape.radix ^ shape.digits in
      let none : (j : ℕ) → j < columns shape → f j + f j ≡ f j = λ j l. omega (arith, div-eq_of_lt (below j l)) in
      omega (arith, sum-each f f f js (all-turn _ _ none js inside))

  readings-shares : (i : ℕ) → i < shape.digits → readings shape 0 row ℓ js (suc i) ≡ shares (shape.digits - suc i)
  readings-shares i h =
      let b : ℕ = shape.digits in
      let step : (i' : ℕ) → i' < suc i → reading shape 0 row ℓ js (b - suc i') + shares (b - i') ≡ shares (b - suc i') =
      λ i' l. let next : suc (b - suc i') ≡ b - i' = omega arith in rw next at (digit-matched (b - suc i') (omega arith)) in
      let first : b - 0 ≡ b = omega arith in
      let none : shares (b - 0) ≡ 0 = ap shares first ∙ shares-none in
      omega (arith, sum-steps (suc i) (λ i. reading shape 0 row ℓ js (b - suc i)) (λ i. shares (b - i)) step)

  -- v / ρ^s and its remainder, the digit, are congruent
  quiet-balanced :
      (i : ℕ) → i < shape.digits
      → is_quiet shape 0 row ℓ js i ≡ eqb (digit_sum shape.radix (shape.digits - suc i) js row % shape.radix) 0
  unfolding digit
  quiet-balanced i h =
      let s : ℕ = shape.digits - suc i in
      ap (λ x. eqb (x % shape.radix) 0) (readings-shares i h)
      ∙ ap (λ x. eqb x 0) (sym (sum_same shape.radix (λ j. get_or row j 0 / shape.radix ^ s) js).rem)

-- the tally after a whole cycle, as the tests of the line and of the digit sums tell it
module _
    (z : ℕ) (s : Shape) (t : Taken s) (row : List ℕ) (sized : length row ≡ columns s) (below : Below (levels s) (columns s) row) where
  -- the digits are counted from the highest down, and in the definition of balance from z up
  all-balanced : every_to (checks s) (check_quiet z s t 0 row) ≡ is_balanced_from z s row
  unfolding is_balanced_from
  all-balanced =
      every_to-same (checks s) (check_quiet z s t 0 row) _ λ ℓ h.
      every_to-down (s.digits - z) _ _ λ i l.
      let same : s.digits - suc i ≡ z + (s.digits - z - suc i) = omega arith in
      quiet-balanced s t row sized below ℓ (support s ℓ) (support-below s t ℓ) i (omega arith)
      ∙ ap (λ d. eqb (digit_sum s.radix d (support s ℓ) row % s.radix) 0) same

  sound-test : tally_run s 0 row (schedule z s) fresh_tally ≡ tally 0 (cond (is_balanced_from z s row) 0 1)
  unfolding schedule
  sound-test =
      ap (tally_run s 0 row (tests z s)) (openings-sound s t row sized 0 0) ∙ tests-run z s t 0 row 0 ∙ ap (λ b. tally 0 (cond b 0 1)) all-balanced

  pub flag-test : (line : ℕ) → tally_run s line row (schedule z s) fresh_tally ≡ tally 0 (cond (eqb line 0 && is_balanced_from z s row) 0 1)
  flag-test line = go (eqb line 0) refl
    where
      go : (b : Bool) → eqb line 0 ≡ b → tally_run s line row (schedule z s) fresh_tally ≡ tally 0 (cond (b && is_balanced_from z s row) 0 1)
      go true e = ap (λ line. tally_run s line row (schedule z s) fresh_tally) (eqb-true line 0 e) ∙ sound-test
      go false e = unsound_claim z s t line (eqb-false line 0 e) row

  flags-after : AfterCycle z s row (tally_run s 0 row (schedule z s) fresh_tally)
  flags-after =
      let test = balanced_claim z s row in
      record {
        counter = ap (λ l. l.counter) sound-test;
        balanced = λ h. ap (λ l. l.flag) sound-test ∙ ap (λ b. cond b 0 1) (test.1 h);
        unbalanced = λ n. ap (λ l. l.flag) sound-test ∙ ap (λ b. cond b 0 1) ((not-eq-not {b = false}).0 (λ p. n (test.0 p)));
      }

pub flag_claim : FlagClaim
flag_claim z s t row sized below = flags-after z s t row sized below
