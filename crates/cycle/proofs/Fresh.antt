-- A clear that is taken leaves the fresh array. Assumes nothing.
use mathlib.Core.Path.{ap}
use mathlib.Core.List.{[]}
use Rattle.shape.proofs.Calling.{call-done, call-taken}
use Rattle.cycle.specs.Calls.{zero_rows, cleared, fresh, clear_call}
use Rattle.cycle.specs.Claims.{FreshClaim}

pub fresh_claim : FreshClaim
unfolding clear_call fresh cleared zero_rows
fresh_claim s st taken = ap (λ r. r.state) (call-done _ [] st _ (call-taken _ [] st _ taken))
