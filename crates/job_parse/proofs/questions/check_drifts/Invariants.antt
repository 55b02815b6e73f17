-- `job_parse::questions::check_drifts` meets its contract: no drift before drift i has a no. Assumes nothing.
use mathlib.Core.Path.{◌≡◌}
use mathlib.Core.List.{List}
use Prim.Native.Nat.{ℕ}
use Rattle.parity.specs.Lists.{joined}
use Rattle.parity.specs.Questions.{Question, first_no}
use Rattle.array_questions.specs.Questions.{drift_arguments}
use Rattle.job_parse.specs.Parse.{job_shape, drift_row, drift_column, drift_level}
use Rattle.job_parse.proofs.questions.check_drifts.Given as goal

-- the questions on drift i, and the first no among them
abbrev pub asked : List ℕ → ℕ → List Question
asked input i = drift_arguments (job_shape input) (drift_row input i) (drift_column input i) (drift_level input i)

abbrev pub invariant-loop-i : goal.invariant-loop-i
invariant-loop-i l = first_no (joined l.i (asked l.input)) ≡ 0
