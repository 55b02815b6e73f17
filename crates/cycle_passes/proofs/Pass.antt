-- A pass over a buffer that writes each place once, from the front or from the back: the invariant of its loop. Assumes nothing.
use mathlib.Core.Path.{◌≡◌, refl, sym, ap, ap₂, ◌∙◌}
use mathlib.Core.List.{List}
use Prim.Native.Nat.{ℕ, suc, ◌+◌, ◌≤◌, ◌<◌}
use native.Mathlib.Omega.{arith}
use lib.ListN.{length, get_or, set, length-set}
use lib.Seq.{ext_get_or}
use Rattle.std.proofs.lemmas.Grind.{common_steps}
use Rattle.parity.specs.Lists.{tabulate}
use Rattle.parity.proofs.ListLaws.{length-tabulate, get_or-tabulate}
use Rattle.parity.proofs.Filled.{filled, filled-here, filled_next, filled-all}

-- the first i places of the buffer are f's, the rest is as it was
pub record Pass (f : ℕ → ℕ) (old : List ℕ) (i : ℕ) (buffer : List ℕ) : Type 0 where
  pub made : buffer ≡ filled f old i

pub pass-start : (f : ℕ → ℕ) (old : List ℕ) → Pass f old 0 old
pass-start f old = record { made = refl }

module _ {f : ℕ → ℕ} {old : List ℕ} {i : ℕ} {buffer : List ℕ} (p : Pass f old i buffer) where
  -- the place to be written next is as it was
  pub pass-here : get_or buffer i 0 ≡ get_or old i 0
  pass-here = ap (λ l. get_or l i 0) p.made ∙ filled-here f old i 0

  pub pass-next : {next : List ℕ} {v : ℕ} → next ≡ set buffer i v → v ≡ f i → i < length old → Pass f old (i + 1) next
  pass-next {next} {v} stored e h = record { made = stored ∙ ap₂ (λ l x. set l i x) p.made e ∙ filled_next f old i h }

  pub pass-end : i ≡ length old → buffer ≡ tabulate (length old) f
  pass-end h = p.made ∙ filled-all f old i h

-- a buffer that has f's value at each place
pub tabulated : {f : ℕ → ℕ} {n : ℕ} {buffer : List ℕ} → length buffer ≡ n → ((i : ℕ) → i < n → get_or buffer i 0 ≡ f i) → buffer ≡ tabulate n f
tabulated {f} {n} {buffer} sized made =
    ext_get_or 0 buffer (tabulate n f) (sized ∙ sym (length-tabulate n f))
    (λ i h. made i (omega arith) ∙ sym (get_or-tabulate n f i 0 (omega arith)))

-- ---- from the back

-- the places from i on are f's
pub record PassBack (f : ℕ → ℕ) (old : List ℕ) (i : ℕ) (buffer : List ℕ) : Type 0 where
  pub within : i ≤ length old
  pub sized : length buffer ≡ length old
  pub made : (j : ℕ) → i ≤ j → j < length old → get_or buffer j 0 ≡ f j

pub back_start : (f : ℕ → ℕ) (old : List ℕ) (i : ℕ) → i ≡ length old → PassBack f old i old
back_start f old i e = record { within = omega arith; sized = refl; made = λ j low high. absurd (omega arith) }

module _ {f : ℕ → ℕ} {old : List ℕ} {i : ℕ} {buffer : List ℕ} (p : PassBack f old i buffer) where
  pub back-next : (k : ℕ) {next : List ℕ} {v : ℕ} → suc k ≡ i → next ≡ set buffer k v → v ≡ f k → PassBack f old k next
  back-next k {next} {v} before stored e =
      record {
        within = omega (arith, p.within);
        sized = ap length stored ∙ length-set buffer k v ∙ p.sized;
        made = λ j low high. let rest = p.made j in grind (arith, common_steps);
      }

  pub back_end : i ≤ 0 → buffer ≡ tabulate (length old) f
  back_end none = tabulated p.sized (λ j h. p.made j (omega arith) h)
