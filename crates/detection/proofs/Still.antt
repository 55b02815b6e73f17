-- On an array that stays still a whole cycle leaves flags that say which rows have a line that isn't sound or a digit sum from z on that is not 0, and from
-- 0 on which rows have a line that isn't sound or are not sound. Assumes nothing.
use mathlib.Core.Path.{◌≡◌, sym, ap, ap₂, ◌∙◌}
use mathlib.Core.Bool.{cond, ◌&&◌}
use mathlib.Core.List.{List}
use Prim.Native.Nat.{ℕ, ◌+◌, ◌*◌, ◌<◌}
use native.Mathlib.Omega.{arith}
use lib.Dec.{eqb}
use lib.ListN.{get_or}
use lib.Seq.{get_or-take, get_or-drop, ext_get_or}
use Rattle.parity.specs.Lists.{tabulate}
use Rattle.parity.specs.Shape.{levels, columns, cell_count}
use Rattle.parity.specs.Matrix.{cycle_steps}
use Rattle.parity.specs.Claims.{Below}
use Rattle.parity.specs.Questions.{Taken}
use Rattle.parity.specs.declared.Shape.{Shape}
use Rattle.parity.proofs.Taken.{limits}
use Rattle.parity.proofs.ListLaws.{length-tabulate, get_or-tabulate, tabulate-same}
use Rattle.schedule.specs.Coarse.{is_balanced_from}
use Rattle.schedule.proofs.Balanced.{sound-test}
use Rattle.array_memory.specs.Geometry.{row_at}
use Rattle.array_memory.proofs.RowPlaces.{row_fits, row_sized}
use Rattle.cycle.specs.Calls.{State}
use Rattle.detection.specs.Claims.{StillClaim, StillSoundClaim}
use Rattle.cycle.proofs.Steps.{tallies-ended}
use Rattle.detection.proofs.Course.{Underway, underway}

-- the cells of row i are below q where all cells are
row_below :
    (s : Shape) (cells : List ℕ) (i : ℕ) → i < s.rows → Below (levels s) (cell_count s) cells
    → Below (levels s) (columns s) (row_at (columns s) cells i)
unfolding row_at cell_count
row_below s cells i h below j l =
    rw (get_or-take, get_or-drop) (below (i * columns s + j) (omega (arith, row_fits i s.rows (columns s) h)))

module _ (z : ℕ) (s : Shape) (t : Taken s) where
  flags-ended :
      (cells lines : List ℕ) (st : State) → Below (levels s) (cell_count s) cells → Underway z s cells lines (cycle_steps z s) st
      → st.memory.flags ≡ tabulate s.rows (λ i. cond (eqb (get_or lines i 0) 0 && is_balanced_from z s (row_at (columns s) cells i)) 0 1)
  flags-ended cells lines st below u =
      let quiet : List ℕ → List ℕ → ℕ → ℕ = λ held lines i. cond (eqb (get_or lines i 0) 0 && is_balanced_from z s (row_at (columns s) held i)) 0 1 in
      let below' : Below (levels s) (cell_count s) st.memory.cells = rw u.still.0 below in
      ext_get_or 0 st.memory.flags (tabulate s.rows (quiet cells lines)) (u.sized.rows.flags ∙ sym (length-tabulate s.rows (quiet cells lines)))
      (λ i h.
      let l : i < s.rows = omega (arith, u.sized.rows.flags) in
      tallies-ended s st t z u.tallies i l (row_sized s st.memory.cells i u.sized.cells l) (row_below s st.memory.cells i l below')
      ∙ ap₂ (λ held lines. quiet held lines i) u.still.0 u.still.1
      ∙ sym (get_or-tabulate s.rows (quiet cells lines) i 0 l))

pub still_claim : StillClaim
still_claim z s t lt st lent below buffers sized whole =
    flags-ended z s t st.memory.cells st.memory.lines _ below (rw whole at (underway z s t lt st lent buffers sized (omega arith)))

pub still_sound_claim : StillSoundClaim
still_sound_claim s t st lent below buffers sized whole =
    still_claim 0 s t (limits s t).digits_low st lent below buffers sized whole
    ∙ tabulate-same s.rows _ _
    (λ i h. ap (λ b. cond (eqb (get_or st.memory.lines i 0) 0 && b) 0 1)
    (sound-test s _ (row_sized s st.memory.cells i lent.cells h) (row_below s st.memory.cells i h below)))
