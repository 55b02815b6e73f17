-- `panel::panel` meets its contract: `check_panel` asks, and `panel_lent` reads. Assumes nothing.
use mathlib.Core.Path.{sym}
use mathlib.Core.List.{List, [], ◌∷◌}
use lib.ListN.{length}
use Rattle.parity.specs.Questions.{Question}
use Rattle.shape.proofs.Refusals.{answer-refused, handed, refuses}
use Rattle.panel.specs.Answers.{summary_says}
use Rattle.panel.specs.Panel.{no_reading, panel_questions, panel_call}
use Rattle.panel.proofs.panel.Goals as goal

-- refused
pub returns-in_err-sizes : goal.returns-in_err-sizes
unfolding panel_call
returns-in_err-sizes c =
    let a = c.args in
    let questions : List Question = panel_questions a.shape (length a.flags.now ∷ length a.totals.now ∷ []) in
    let no = answer-refused questions a.shape c.check_panel.ensures c.in_err-sizes.was in
    λ mem. sym (handed no_reading summary_says c.from_residual.result _ c.from_residual.ensures.1 (refuses no_reading _ _ no.0))
