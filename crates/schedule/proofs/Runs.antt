-- The effect of several lookups on a tally, part by part. Assumes nothing.
use mathlib.Core.Path.{◌≡◌, refl, ap, ◌∙◌}
use mathlib.Core.List.{List, [], ◌∷◌, ◌++◌}
use Prim.Native.Nat.{ℕ, zero, suc, ◌<◌}
use native.Mathlib.Omega.{arith}
use lib.ListN.{length, get_or, take}
use lib.Seq.{take-suc}
use Rattle.parity.specs.Lists.{joined}
use Rattle.parity.specs.Match.{match_byte, line_match}
use Rattle.parity.specs.Shape.{levels}
use Rattle.parity.specs.declared.Shape.{Shape}
use Rattle.schedule.specs.Schedule.{Entry, test_vector}
use Rattle.schedule.specs.Tally.{Tally, tally_step, tally_run}
use Rattle.schedule.proofs.All.{All}

module _ (s : Shape) (line : ℕ) (row : List ℕ) where
  pub tally_run-append : (es fs : List Entry) (tally : Tally) → tally_run s line row (es ++ fs) tally ≡ tally_run s line row fs (tally_run s line row es tally)
  tally_run-append [] fs tally = refl
  tally_run-append (e ∷ es) fs tally = tally_run-append es fs (tally_step s line row e tally)

  -- one lookup more
  pub tally_run-take :
      (es : List Entry) (c : ℕ) → c < length es → (d : Entry) (tally : Tally)
      → tally_run s line row (take (suc c) es) tally ≡ tally_step s line row (get_or es c d) (tally_run s line row (take c es) tally)
  tally_run-take es c h d tally =
      ap (λ fs. tally_run s line row fs tally) (take-suc es c d h) ∙ tally_run-append (take c es) (get_or es c d ∷ []) tally

  -- list after list, where each takes one tally to the next
  pub tally_run-joined :
      (n : ℕ) (f : ℕ → List Entry) (tallies : ℕ → Tally) → ((i : ℕ) → i < n → tally_run s line row (f i) (tallies i) ≡ tallies (suc i))
      → tally_run s line row (joined n f) (tallies 0) ≡ tallies n
  tally_run-joined zero f tallies h = refl
  tally_run-joined (suc n) f tallies h =
      tally_run-append (joined n f) (f n) (tallies 0)
      ∙ ap (tally_run s line row (f n)) (tally_run-joined n f tallies (λ i l. h i (omega arith)))
      ∙ h n (omega arith)

-- two rows that give each lookup the same match byte are counted alike, whatever their line
pub tally_run-alike :
    (s : Shape) (line : ℕ) (row row' : List ℕ) (es : List Entry)
    → All (λ e. match_byte (levels s) (test_vector s e) row ≡ match_byte (levels s) (test_vector s e) row') es
    → (tally : Tally) → tally_run s line row es tally ≡ tally_run s line row' es tally
unfolding tally_step line_match
tally_run-alike s line row row' [] h tally = refl
tally_run-alike s line row row' (e ∷ es) h tally = rw h.0 (tally_run-alike s line row row' es h.1 _)
