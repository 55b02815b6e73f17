-- Sweeps on the tally of a row, whatever its line and its cells: after some digits the counter has what their match bytes add up to, mod ρ; the row is
-- flagged exactly where that was not 0 at the end of some digit, and the counter returns to 0 at the last. Assumes nothing.
use mathlib.Core.Path.{◌≡◌, refl, sym, ap, ◌∙◌}
use mathlib.Core.Bool.{Bool, true, false, cond, ◌&&◌}
use mathlib.Core.List.{List}
use Prim.Native.Nat.{ℕ, suc, ◌-◌, ◌%◌, ◌≤◌, ◌<◌}
use native.Mathlib.Nat.{zero-mod, one-le-mul}
use native.Mathlib.Omega.{arith}
use lib.Dec.{eqb, leb}
use lib.ListN.{length}
use borrow.Author.Tests.{eq-eqb, ne_eqb, leb-true, leb-false}
use Rattle.parity.specs.Lists.{joined, sum_over, sum_to, every_to}
use Rattle.parity.specs.Shape.{checks}
use Rattle.parity.specs.Matrix.{support}
use Rattle.parity.specs.Questions.{Taken}
use Rattle.parity.specs.declared.Shape.{Shape}
use Rattle.parity.proofs.Taken.{limits}
use Rattle.schedule.specs.Schedule.{factors, within, of_digit, sweep, of_check, tests}
use Rattle.schedule.specs.Tally.{Tally, tally_run}
use Rattle.schedule.proofs.All.{All, all-each, all-pairs}
use Rattle.schedule.proofs.Sums.{cond_same}
use Rattle.schedule.proofs.Support.{support-some}
use Rattle.schedule.proofs.Factors.{factors-some}
use Rattle.schedule.proofs.Length.{entries, entries-length}
use Rattle.schedule.proofs.Runs.{tally_run-joined}
use Rattle.schedule.proofs.Digit.{tally, Plain, matched, run-digit}

-- flags one after the other
both-flags : (a b : Bool) (f : ℕ) → cond b (cond a f 1) 1 ≡ cond (a && b) f 1
both-flags true b f = refl
both-flags false b f = cond_same b 1

module _ (shape : Shape) (line : ℕ) (row : List ℕ) (ℓ : ℕ) (js : List ℕ) where
  -- what digit s counts, what the i highest digits do, and whether that is 0 mod ρ at the end of the next
  abbrev pub reading : ℕ → ℕ
  reading s = sum_over (entries shape ℓ js s) (matched shape line row)

  abbrev pub readings : ℕ → ℕ
  readings i = sum_to i (λ i. reading (shape.digits - suc i))

  abbrev pub is_quiet : ℕ → Bool
  is_quiet i = eqb (readings (suc i) % shape.radix) 0

module _ (z : ℕ) (shape : Shape) (t : Taken shape) (line : ℕ) (row : List ℕ) where
  -- no column is left out of a digit's tests, which count and no more
  plain : (ℓ : ℕ) (js : List ℕ) (s : ℕ) → All (Plain s) (entries shape ℓ js s)
  plain ℓ js s =
      all-pairs (Plain s) (λ j. Unit {0}) (λ a. Unit {0}) (within ℓ s) (λ j a l k. record { digit = refl; kind = refl; flags = refl; resets = refl })
      js (factors shape s) (all-each _ js (λ j l. tt)) (all-each _ (factors shape s) (λ a l. tt))

  module _ (ℓ : ℕ) (js : List ℕ) (some : 0 < length js) (f : ℕ) where
    -- the counter after the i highest digits, and the tally
    abbrev counter_after : ℕ → ℕ
    counter_after i = cond (eqb (shape.digits - i) z) 0 (readings shape line row ℓ js i % shape.radix)

    abbrev tally_after : ℕ → Tally
    tally_after i = tally (counter_after i) (cond (every_to i (is_quiet shape line row ℓ js)) f 1)

    counter-start : counter_after 0 ≡ 0
    counter-start = ap (cond (eqb (shape.digits - 0) z) 0) (zero-mod shape.radix) ∙ cond_same (eqb (shape.digits - 0) z) 0

    -- at z it has returned to 0
    counter-end : counter_after (shape.digits - z) ≡ 0
    counter-end = go (leb z shape.digits) refl
      where
        go : (b : Bool) → leb z shape.digits ≡ b → counter_after (shape.digits - z) ≡ 0
        go true e =
            let last : shape.digits - (shape.digits - z) ≡ z = omega (arith, leb-true z shape.digits e) in
            ap (λ b. cond b 0 (readings shape line row ℓ js (shape.digits - z) % shape.radix)) (eq-eqb _ _ last)
        go false e =
            let none : shape.digits - z ≡ 0 = omega (arith, leb-false z shape.digits e) in
            ap counter_after none ∙ counter-start

    sweep-step : (i : ℕ) → i < shape.digits - z → tally_run shape line row (of_digit z shape ℓ js (shape.digits - suc i)) (tally_after i) ≡ tally_after (suc i)
    unfolding of_digit
    sweep-step i l =
        let s : ℕ = shape.digits - suc i in
        let lt : s < shape.digits = omega arith in
        let c : ℕ = readings shape line row ℓ js i in
        let flag : ℕ = cond (every_to i (is_quiet shape line row ℓ js)) f 1 in
        ap (λ b. tally_run shape line row (of_digit z shape ℓ js s) (tally (cond b 0 (c % shape.radix)) flag))
        (ne_eqb (shape.digits - i) z (λ e. omega arith))
        ∙ run-digit z shape line row s c flag (entries shape ℓ js s) (plain ℓ js s)
        (rw entries-length (one-le-mul some (factors-some shape (limits shape t).radix_low s lt)))
        ∙ ap (tally (counter_after (suc i))) (both-flags (every_to i (is_quiet shape line row ℓ js)) (is_quiet shape line row ℓ js i) f)

    pub sweep-run :
        tally_run shape line row (sweep z shape ℓ js) (tally 0 f) ≡ tally 0 (cond (every_to (shape.digits - z) (is_quiet shape line row ℓ js)) f 1)
    unfolding sweep
    sweep-run =
        let b : ℕ = shape.digits in
        ap (λ c. tally_run shape line row (sweep z shape ℓ js) (tally c f)) (sym counter-start)
        ∙ tally_run-joined shape line row (b - z) (λ i. of_digit z shape ℓ js (b - suc i)) tally_after sweep-step
        ∙ ap (λ c. tally c (cond (every_to (b - z) (is_quiet shape line row ℓ js)) f 1)) counter-end

  -- the sweep over J(ℓ) counts nothing at the end of any digit
  abbrev pub check_quiet : ℕ → Bool
  check_quiet ℓ = every_to (shape.digits - z) (is_quiet shape line row ℓ (support shape ℓ))

  checks-run : (n f : ℕ) → n ≤ checks shape → tally_run shape line row (joined n (of_check z shape)) (tally 0 f) ≡ tally 0 (cond (every_to n check_quiet) f 1)
  unfolding of_check
  checks-run n f h =
      tally_run-joined shape line row n (of_check z shape) (λ ℓ. tally 0 (cond (every_to ℓ check_quiet) f 1))
      (λ ℓ l. sweep-run ℓ (support shape ℓ) (support-some shape t ℓ (omega arith)) (cond (every_to ℓ check_quiet) f 1)
      ∙ ap (tally 0) (both-flags (every_to ℓ check_quiet) (check_quiet ℓ) f))

  -- so the tests leave counter 0, and the flag as it was where all sweeps are quiet, else 1
  pub tests-run : (f : ℕ) → tally_run shape line row (tests z shape) (tally 0 f) ≡ tally 0 (cond (every_to (checks shape) check_quiet) f 1)
  unfolding tests
  tests-run f = checks-run (checks shape) f (omega arith)
