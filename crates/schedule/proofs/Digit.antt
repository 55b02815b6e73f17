-- The tests of one ℓ and s on the tally of a row, whatever its line and its cells: the match bytes are counted mod ρ, and at the last the row is flagged
-- if the counter is not 0 and the counter returns to 0 where s is z. Assumes nothing.
use mathlib.Core.Path.{◌≡◌, refl, sym, ap, ap₂, ◌∙◌}
use mathlib.Core.Bool.{Bool, true, false, cond, not}
use mathlib.Core.List.{List, [], ◌∷◌}
use Prim.Native.Nat.{ℕ, ◌+◌, ◌%◌, ◌<◌}
use native.Mathlib.Nat.{mod-add-mod, add-zero, add_assoc, not-suc-le-zero}
use native.Mathlib.Omega.{arith}
use lib.Dec.{eqb}
use lib.ListN.{length}
use Rattle.parity.specs.Lists.{sum_over}
use Rattle.parity.specs.Match.{line_match}
use Rattle.parity.specs.Shape.{levels}
use Rattle.parity.specs.declared.Shape.{Shape}
use Rattle.schedule.specs.Schedule.{counts, Entry, at_last, ending, test_vector}
use Rattle.schedule.specs.Tally.{Tally, counted, flagged, reset, tally_step, tally_run}
use Rattle.schedule.proofs.All.{All}

abbrev pub tally : ℕ → ℕ → Tally
tally c f = record { counter = c; flag = f }

-- the tally at the end of digit s, where c has been counted
abbrev pub ended : ℕ → ℕ → ℕ → ℕ → Tally
ended z s c f = tally (cond (eqb s z) 0 c) (cond (eqb c 0) f 1)

-- a test of digit s that counts and no more
pub record Plain (s : ℕ) (e : Entry) : Type 0 where
  pub digit : e.digit ≡ s
  pub kind : e.kind ≡ counts
  pub flags : e.flags ≡ false
  pub resets : e.resets ≡ false

-- a test counts, and the last of its digit flags the rows whose counter is not 0
counted-test : (e : Entry) → e.kind ≡ counts → (ρ c m : ℕ) → counted e.kind ρ c m ≡ (c + m) % ρ
counted-test e p ρ c m = rw p refl

turned : (b : Bool) (f : ℕ) → cond (not b) 1 f ≡ cond b f 1
turned true f = refl
turned false f = refl

flagged-test : (e : Entry) → e.kind ≡ counts → e.flags ≡ true → (m c f : ℕ) → flagged e m c f ≡ cond (eqb c 0) f 1
unfolding flagged
flagged-test e p q m c f = rw (q, p) (turned (eqb c 0) f)

module _ (shape : Shape) (line : ℕ) (row : List ℕ) where
  -- the row's match byte
  abbrev pub matched : Entry → ℕ
  matched e = line_match (levels shape) line (test_vector shape e) row

  step-counted :
      (c f : ℕ) (e : Entry) → e.kind ≡ counts
      → tally_step shape line row e (tally (c % shape.radix) f)
      ≡ tally (reset e ((c + matched e) % shape.radix)) (flagged e (matched e) ((c + matched e) % shape.radix) f)
  unfolding tally_step
  step-counted c f e p =
      let ρ : ℕ = shape.radix in
      ap (λ d. tally (reset e d) (flagged e (matched e) d f)) (counted-test e p ρ (c % ρ) (matched e) ∙ mod-add-mod c ρ (matched e))

  step-plain :
      (s c f : ℕ) (e : Entry) → Plain s e → tally_step shape line row e (tally (c % shape.radix) f) ≡ tally ((c + matched e) % shape.radix) f
  unfolding flagged reset
  step-plain s c f e p = step-counted c f e p.kind ∙ simp (p.resets, p.flags)

module _ (z : ℕ) (shape : Shape) (line : ℕ) (row : List ℕ) where
  step-last :
      (s c f : ℕ) (e : Entry) → Plain s e
      → tally_step shape line row (ending z e) (tally (c % shape.radix) f) ≡ ended z s ((c + matched shape line row e) % shape.radix) f
  unfolding reset test_vector
  step-last s c f e p =
      let d : ℕ = (c + matched shape line row e) % shape.radix in
      step-counted shape line row c f (ending z e) p.kind
      ∙ ap₂ tally (ap (λ i. cond (eqb i z) 0 d) p.digit) (flagged-test (ending z e) p.kind refl (matched shape line row e) d f)

  pub run-digit :
      (s c f : ℕ) (es : List Entry) → All (Plain s) es → 0 < length es
      → tally_run shape line row (at_last (ending z) es) (tally (c % shape.radix) f)
      ≡ ended z s ((c + sum_over es (matched shape line row)) % shape.radix) f
  run-digit s c f [] p h = absurd (not-suc-le-zero h)
  run-digit s c f (e ∷ []) p h =
      step-last s c f e p.0 ∙ ap (λ x. ended z s ((c + x) % shape.radix) f) (sym (add-zero (matched shape line row e)))
  run-digit s c f (e ∷ e' ∷ es) p h =
      ap (tally_run shape line row (at_last (ending z) (e' ∷ es))) (step-plain shape line row s c f e p.0)
      ∙ run-digit s (c + matched shape line row e) f (e' ∷ es) p.1 (omega arith)
      ∙ ap (λ x. ended z s (x % shape.radix) f) (add_assoc c (matched shape line row e) (sum_over (e' ∷ es) (matched shape line row)))
