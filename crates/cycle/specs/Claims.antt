-- The theorem on the calls of the cycle, as a type; the proof is in proofs/.
use Rattle.std.specs.Prelude.{◌≡◌, true}
use Rattle.parity.specs.declared.Shape.{Shape}
use Rattle.cycle.specs.Calls.{State, fresh, clear_call}

-- A clear that is taken leaves the fresh array, whatever stood in the memory and the record before.
abbrev pub FreshClaim : Type 0
FreshClaim = (s : Shape) (st : State) → (clear_call s st).said.taken ≡ true → (clear_call s st).state ≡ fresh s
