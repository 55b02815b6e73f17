-- `router::read::rule_at` meets its contract: `check_rule_at` asks, and `rule_at_lent` reads the rule. Assumes nothing.
use mathlib.Core.List.{List, []}
use lib.ListN.{length}
use Rattle.parity.specs.Questions.{Question}
use Rattle.shape.proofs.Calling.{call-handed}
use Rattle.shape.proofs.Refusals.{answer-refused}
use Rattle.router_ranges.specs.Ranges.{ranges_of}
use Rattle.router.specs.Calls.{rule_at_call}
use Rattle.router_questions.specs.Questions.{rule_at_questions}
use Rattle.router.proofs.read.rule_at.Goals as goal

-- refused
pub returns-in_err-sizes : goal.returns-in_err-sizes
unfolding rule_at_call
returns-in_err-sizes c =
    let a = c.args in
    let questions : List Question =
    rule_at_questions a.shape (length a.cells.now) (length a.belts.now) a.row (length a.lows.now) (length a.highs.now) in
    λ mem. call-handed questions [] (ranges_of a.lows.now a.highs.now) _ (λ belt. belt) c.from_residual.result _
    (answer-refused questions a.shape c.check_rule_at.ensures c.in_err-sizes.was) c.from_residual.ensures.1
