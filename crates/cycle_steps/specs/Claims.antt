-- The theorems on many steps, as types; the proofs are in proofs/.
use Rattle.std.specs.Prelude.{◌≡◌, true, List, ℕ, ◌+◌, min, replicate}
use Rattle.parity.specs.Matrix.{cycle_steps}
use Rattle.parity.specs.declared.Shape.{Shape}
use Rattle.cycle.specs.Record.{cycle_at}
use Rattle.cycle.specs.Calls.{State}
use Rattle.cycle_steps.specs.Steps.{after_steps, steps_call}

-- Many steps by one call leave what that many single ones leave, whatever state they find, taken or refused; a single step past the cycle's end is
-- refused and leaves all as it was.
abbrev pub StepsClaim : Type 0
StepsClaim = (s : Shape) (st : State) (n : ℕ) (matches : List ℕ) → (steps_call s st n matches).state ≡ after_steps s st (replicate n matches)

-- Where they are taken, as many are made and counted as were asked for, or as the cycle has left: the record is that of so many.
abbrev pub CountClaim : Type 0
CountClaim =
    (s : Shape) (st : State) (n : ℕ) (matches : List ℕ) → (steps_call s st n matches).said.taken ≡ true → let z = st.cycle.skip in
    (steps_call s st n matches).state.cycle ≡ cycle_at z s (min (st.cycle.count + n) (cycle_steps z s))
