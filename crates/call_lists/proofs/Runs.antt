-- Runs of calls: what each call keeps a list keeps; states that follow one another; one list after the other; and many steps in a row.
-- Assumes nothing.
use mathlib.Core.Path.{◌≡◌, refl, sym, ◌∙◌, ap}
use mathlib.Core.List.{List, [], ◌∷◌, ◌++◌}
use Prim.Native.Nat.{ℕ, zero, suc}
use lib.ListN.{replicate}
use Rattle.parity.specs.Lists.{followed}
use Rattle.parity.specs.declared.Shape.{Shape}
use Rattle.parity.proofs.Followed.{followed-keeps, followed-holds, followed-append}
use Rattle.cycle.specs.Calls.{State, fresh, step_call}
use Rattle.cycle_steps.specs.Steps.{after_steps}
use Rattle.cycle_steps.proofs.StepsLeft.{steps_claim}
use Rattle.call_lists.specs.Run.{Call, step, after, run_from, run}
use Rattle.call_lists.specs.Claims.{Follows, FollowClaim, StepsListClaim}

-- what holds of a state and a thing that follows its calls, and is kept by every call, holds after every list ..
pub run-keeps :
    (s : Shape) {B : Type 0} (g : B → Call → B) (P : State → B → Type 0)
    → ((st : State) (y : B) (c : Call) → P st y → P (after s st c) (g y c))
    → (calls : List Call) (st : State) (y : B) → P st y → P (run_from s st calls) (followed g y calls)
run-keeps s g P kept = followed-keeps (after s) g P kept

-- .. and so what holds of the fresh array
pub run_holds :
    (s : Shape) (P : State → Type 0) → P (fresh s) → ((st : State) (c : Call) → P st → P (after s st c)) → (calls : List Call) → P (run s calls)
unfolding run
run_holds s P p kept calls = followed-holds (after s) P kept calls (fresh s) p

follows-run : (s : Shape) (calls : List Call) (st last : State) → Follows s st calls last → last ≡ run_from s st calls
follows-run s [] st last e = sym e
follows-run s (c ∷ cs) st last (next, (r, e, same), more) =
    follows-run s cs next last more ∙ ap (λ st. run_from s st cs) (sym (ap (λ r. r.state) e ∙ same))

pub follow_claim : FollowClaim
unfolding run
follow_claim s calls last f = follows-run s calls (fresh s) last f

module _ (s : Shape) (st : State) where
  pub run-append : (xs ys : List Call) → run_from s st (xs ++ ys) ≡ run_from s (run_from s st xs) ys
  run-append xs ys = followed-append (after s) xs ys st

-- n steps with one buffer
run-steps : (s : Shape) (n : ℕ) (matches : List ℕ) (st : State) → after_steps s st (replicate n matches) ≡ run_from s st (replicate n (step matches))
run-steps s zero matches st = refl
run-steps s (suc n) matches st = run-steps s n matches (step_call s st matches).state

pub steps_list_claim : StepsListClaim
unfolding run
steps_list_claim s calls n matches =
    steps_claim s (run_from s (fresh s) calls) n matches
    ∙ run-steps s n matches (run_from s (fresh s) calls)
    ∙ sym (run-append s (fresh s) calls (replicate n (step matches)))
