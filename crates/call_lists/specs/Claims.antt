-- The theorems on lists of calls, as types; the proofs are in proofs/.
use Rattle.std.specs.Prelude.{◌≡◌, List, [], ◌∷◌, ◌++◌, ℕ, replicate}
use Rattle.parity.specs.declared.Shape.{Shape}
use Rattle.shape.specs.Answers.{Result}
use Rattle.cycle.specs.Calls.{State, fresh}
use Rattle.cycle_steps.specs.Steps.{steps_call}
use Rattle.call_lists.specs.Run.{Call, step, call_of, run}

-- the state that a call leaves, by the equation of its own contract: all that its definition gives is some result, and that result has the state
abbrev pub Leaves : Shape → State → Call → State → Type 0
Leaves s st c next = (r : Result State) × (call_of s st c ≡ r) × (r.state ≡ next)

-- states that follow one another by the calls' own equations
abbrev pub Follows : Shape → State → List Call → State → Type 0
Follows s st [] last = st ≡ last
Follows s st (c ∷ cs) last = (next : State) × Leaves s st c next × Follows s next cs last

-- They are those that `run` gives.
abbrev pub FollowClaim : Type 0
FollowClaim = (s : Shape) (calls : List Call) (last : State) → Follows s (fresh s) calls last → last ≡ run s calls

-- In a list many steps by one call stand for that many steps: they leave what the list with these at its end leaves, so what holds after every list
-- holds after them. It is no call of its own.
abbrev pub StepsListClaim : Type 0
StepsListClaim =
    (s : Shape) (calls : List Call) (n : ℕ) (matches : List ℕ)
    → (steps_call s (run s calls) n matches).state ≡ run s (calls ++ replicate n (step matches))
