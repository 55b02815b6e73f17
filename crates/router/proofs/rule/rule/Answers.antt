-- `router::rule::rule` meets its contract: `check_rule` asks, `rule_lent` writes the row and its belt, and the record is idle. Assumes nothing.
use mathlib.Core.Path.{sym, ap, ◌∙◌}
use mathlib.Core.List.{List, []}
use lib.ListN.{length}
use Rattle.parity.specs.Questions.{Question}
use Rattle.shape.specs.Refusals.{number_of}
use Rattle.shape.proofs.Calling.{call-refused}
use Rattle.shape.proofs.Refusals.{answer-refused}
use Rattle.array_memory.specs.Memory.{with_cells}
use Rattle.cycle.specs.Calls.{state_of}
use Rattle.cycle.specs.Methods.{changing}
use Rattle.router_ranges.specs.Ranges.{ranges_of}
use Rattle.router.specs.Calls.{router_of, with_belts, rule_call}
use Rattle.router_questions.specs.Questions.{rule_questions}
use Rattle.router.proofs.rule.rule.Goals as goal

-- refused
pub returns-in-Err : goal.returns-in-Err
unfolding rule_call
returns-in-Err c =
    let args = c.args in
    let questions : List Question =
    rule_questions args.shape (length args.cells.now) (length args.belts.now) args.row (ranges_of args.lows.now args.highs.now) in
    λ mem. call-refused questions [] (router_of (state_of (with_cells args.cells.now mem) args.cycle) args.belts.now) _ (number_of c.in-Err.refusal)
    (answer-refused questions args.shape c.check_rule.ensures c.in-Err.is)
    ∙ ap (λ r. with_belts args.belts.now (changing r [] (with_cells args.cells.now mem))) (sym c.refused.ensures)
