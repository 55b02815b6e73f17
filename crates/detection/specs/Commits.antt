-- Document 02, Card 5, over whole lists: what ask and commit are to programming; the proofs are in proofs/.
use Rattle.std.specs.Prelude.{◌≡◌, true, List, ◌∷◌, ◌++◌, ℕ, take}
use Rattle.parity.specs.declared.Shape.{Shape}
use Rattle.shape.specs.Answers.{Result}
use Rattle.array_memory.specs.Memory.{Memory}
use Rattle.array.specs.Calls.{ask_call}
use Rattle.cycle.specs.Calls.{State, program_call, commit_call}
use Rattle.call_lists.specs.Run.{Call, program, ask, commit, run}
use Rattle.detection.specs.Log.{log}

-- all that an ask gives after a list of calls, and all that a commit and a program give there
abbrev pub asks : Shape → List Call → ℕ → List ℕ → List ℕ → Result Memory
asks s calls row given buffer = ask_call s (run s calls).memory row given buffer

abbrev pub commits : Shape → List Call → ℕ → List ℕ → Result State
commits s calls row finished = commit_call s (run s calls) row finished

abbrev pub programs : Shape → List Call → ℕ → List ℕ → Result State
programs s calls row given = program_call s (run s calls) row given

-- two lists after which state and log are the same, and with them the verdicts
pub record Same (s : Shape) (xs ys : List Call) : Type 0 where
  pub state : run s xs ≡ run s ys
  pub logged : log s xs ≡ log s ys

-- After the calls before, a commit is the same as a program: in all that it gives, and in what it leaves, whatever calls come after.
pub record Replaces (s : Shape) (before : List Call) (row : ℕ) (finished given : List ℕ) : Type 0 where
  pub gives : commits s before row finished ≡ programs s before row given
  pub leaves : (after : List Call) → Same s (before ++ commit row finished ∷ after) (before ++ program row given ∷ after)

-- An ask, taken or refused, leaves no trace.
abbrev pub AskClaim : Type 0
AskClaim =
    (s : Shape) (before after : List Call) (row : ℕ) (given buffer : List ℕ) → Same s (before ++ ask row given buffer ∷ after) (before ++ after)

-- Whatever calls stand between, the commit of what an accepted ask wrote is in its place a programming with the asked levels, of the row that was asked
-- about, and of any other that it is committed to.
abbrev pub CommitClaim : Type 0
CommitClaim =
    (s : Shape) (before between : List Call) (row : ℕ) (given buffer : List ℕ) → (asks s before row given buffer).said.taken ≡ true
    → (to : ℕ) → Replaces s (before ++ ask row given buffer ∷ between) to (asks s before row given buffer).bytes given

-- Every accepted commit, of whatever bytes, is the programming of its first k levels.
abbrev pub AcceptedClaim : Type 0
AcceptedClaim =
    (s : Shape) (before : List Call) (row : ℕ) (finished : List ℕ) → (commits s before row finished).said.taken ≡ true
    → Replaces s before row finished (take s.width finished)
