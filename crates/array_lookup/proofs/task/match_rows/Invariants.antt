-- `array_lookup::task::match_rows` meets its contract: the first i places hold the match bytes of the first i rows, and the count is their sum.
-- Assumes nothing.
use mathlib.Core.Path.{◌≡◌}
use mathlib.Core.List.{List}
use Prim.Native.Nat.{ℕ, ◌≤◌}
use Rattle.parity.specs.Lists.{tabulate, sum_over}
use Rattle.parity.proofs.Filled.{filled}
use Rattle.array_lookup.specs.Rows.{byte_of}
use Rattle.array_lookup.proofs.task.match_rows.Given as goal

abbrev pub sum : List ℕ → ℕ
sum xs = sum_over xs (λ x. x)

abbrev pub invariant-loop-i : goal.invariant-loop-i
invariant-loop-i l =
    (l.count ≤ l.i) × (l.matches ≡ filled (byte_of l.below l.inputs l.cells l.lines l.columns) l.initial.matches l.i)
    × (l.count ≡ sum (tabulate l.i (byte_of l.below l.inputs l.cells l.lines l.columns)))
