-- `job_text::print::digit_count` meets its contract: the digits counted and those of the rest are the number's and one more. Assumes nothing.
use mathlib.Core.Path.{◌≡◌}
use Prim.Native.Nat.{◌+◌, ◌≤◌}
use lib.ListN.{length}
use Rattle.job_text.specs.Text.{decimal}
use Rattle.job_text.proofs.print.digit_count.Given as goal

abbrev pub invariant-loop-rest : goal.invariant-loop-rest
invariant-loop-rest l = (l.rest ≤ l.number) × (l.count + length (decimal l.rest) ≡ length (decimal l.number) + 1)

abbrev pub decreases-loop-rest : goal.decreases-loop-rest
decreases-loop-rest l = l.rest
