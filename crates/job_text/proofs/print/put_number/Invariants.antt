-- `job_text::print::put_number` meets its contract: the digits stand from the last on, and the rest has those in front. Assumes nothing.
use mathlib.Core.Path.{◌≡◌}
use mathlib.Core.List.{List, ◌++◌}
use Prim.Native.Nat.{ℕ, ◌+◌}
use Rattle.job_text.specs.Text.{decimal}
use Rattle.job_text.specs.Written.{written}
use Rattle.job_text.proofs.Decimal.{last_digits}
use Rattle.job_text.proofs.print.put_number.Given as goal

-- a tail of the number's digits stands, and the i digits in front of it are the last of the rest
abbrev pub Standing : ℕ → ℕ → List ℕ → List ℕ → ℕ → ℕ → Type 0
Standing at number out₀ out rest i =
    (tail : List ℕ) × (last_digits i rest ++ tail ≡ decimal number) × (out ≡ written (at + i) tail out₀)

abbrev pub invariant-loop-i : goal.invariant-loop-i
invariant-loop-i l = Standing l.at l.number l.initial.out l.out l.rest l.i
