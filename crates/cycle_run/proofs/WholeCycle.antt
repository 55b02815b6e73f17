-- Steps to the end of a cycle, from any of its states. Assumes nothing.
use mathlib.Core.Path.{◌≡◌, sym, ap, ap₂, ◌∙◌}
use mathlib.Core.List.{List}
use Prim.Native.Nat.{ℕ, zero, suc, ◌+◌, ◌-◌, ◌≤◌, ◌<◌}
use native.Mathlib.Omega.{arith}
use lib.ListN.{length, replicate}
use borrow.Author.Tests.{le-ltb}
use Rattle.parity.specs.Matrix.{lookups, cycle_steps}
use Rattle.parity.specs.Questions.{Taken}
use Rattle.parity.specs.declared.Shape.{Shape}
use Rattle.shape.specs.Answers.{accepted, giving}
use Rattle.cycle_place.specs.Places.{entry_at}
use Rattle.cycle_lookup.specs.Lookup.{entry_matches, looked_up}
use Rattle.cycle.specs.Calls.{State, step_matches, stepped_memory, stepped}
use Rattle.cycle_steps.specs.Steps.{after_steps, stepping}
use Rattle.cycle_steps.proofs.Stepping.{At, phase, own-count, own-skip, step-made, stepped-at, stepping-next, stepping-closed, matches-sized}
use Rattle.cycle_run.specs.Cycles.{last_matches}

module _ (z : ℕ) (s : Shape) (t : Taken s) (some : z < s.digits) where
  -- enough steps lead to the cycle's end; the bytes there are those of its last lookup
  pub stepping-all :
      (given : List ℕ) → length given ≡ s.rows → (k n c : ℕ) (st : State) → At z s c st → c + k ≡ cycle_steps z s → k ≤ n
      → (buffer : List ℕ) → length buffer ≡ s.rows → (0 < c → buffer ≡ entry_matches s (entry_at z s (c - 1)) st.memory)
      → stepping s n (giving (accepted 0) buffer st) ≡ giving (accepted 0) (last_matches z s st.memory) (after_steps s st (replicate k given))
  unfolding last_matches step_matches stepped stepped_memory looked_up entry_matches
  stepping-all given l zero n c st at e h buffer sized made =
      let last : c - 1 ≡ suc (lookups z s) = omega arith in
      stepping-closed s n (giving (accepted 0) buffer st) (phase z s t some c st at ∙ le-ltb c (cycle_steps z s) (omega arith))
      ∙ ap (λ bytes. giving (accepted 0) bytes st) (made (omega arith) ∙ ap (λ c. entry_matches s (entry_at z s c) st.memory) last)
  stepping-all given l (suc k) zero c st at e h buffer sized made = absurd (omega arith)
  stepping-all given l (suc k) (suc n) c st at e h buffer sized made =
      let more : c < cycle_steps z s = omega arith in
      let now : st.cycle.count ≡ suc c - 1 = own-count z s t some c st at ∙ omega arith in
      stepping-next z s t some c st at more n (accepted 0) buffer sized
      ∙ stepping-all given l k n (suc c) (stepped s st) (stepped-at z s t some c st at) (omega arith) (omega arith) (step_matches s st)
      (matches-sized z s t some c st at)
      (λ _. ap₂ (λ z n. entry_matches s (entry_at z s n) st.memory) (own-skip z s t some c st at) now)
      ∙ ap (λ r. giving (accepted 0) (last_matches z s st.memory) (after_steps s r.state (replicate k given)))
      (sym (step-made z s t some c st at more given l))
