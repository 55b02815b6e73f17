-- `shape::questions::ask` meets its contract: none of the questions that have been asked fails. Assumes nothing.
use mathlib.Core.Path.{◌≡◌}
use lib.ListN.{drop}
use Rattle.parity.specs.Questions.{first_no}
use Rattle.shape.specs.Refusals.{asked}
use Rattle.shape.proofs.questions.ask.Given as goal

abbrev pub invariant-loop-refusal : goal.invariant-loop-refusal
invariant-loop-refusal l = first_no (asked l.questions) ≡ first_no (asked (drop l.refusal-index l.questions))
