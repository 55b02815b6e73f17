-- `router::route::route` meets its contract: `check_route` asks, and `route_lent` routes. Assumes nothing.
use mathlib.Core.Path.{sym}
use mathlib.Core.List.{List}
use lib.ListN.{length}
use Rattle.parity.specs.Questions.{Question}
use Rattle.shape.proofs.Refusals.{answer-refused, handed, refuses}
use Rattle.router_questions.specs.Questions.{route_questions}
use Rattle.router.specs.Answers.{sent_to}
use Rattle.router.specs.Routes.{nowhere, route_call}
use Rattle.router.proofs.route.route.Goals as goal

-- refused
pub returns-in_err-sizes : goal.returns-in_err-sizes
unfolding route_call
returns-in_err-sizes c =
    let a = c.args in
    let questions : List Question = route_questions a.shape (length a.cells.now) (length a.lines.now) (length a.belts.now) a.values.now in
    let no = answer-refused questions a.shape c.check_route.ensures c.in_err-sizes.was in
    λ mem. sym (handed nowhere sent_to c.from_residual.result _ c.from_residual.ensures.1 (refuses nowhere _ _ no.0))
