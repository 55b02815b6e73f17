-- `acam::matrix::fill_lightest` meets its contract: what is written and what the weights to come would write make the filled part.
-- Assumes nothing.
use mathlib.Core.Path.{◌≡◌}
use Prim.Native.Nat.{◌≤◌}
use lib.ListN.{length, drop}
use Rattle.parity.specs.Lists.{keep, filled_from}
use Rattle.parity.specs.Matrix.{column_order, eligible}
use Rattle.acam.proofs.Blocks.{start, goes}
use Rattle.acam.proofs.matrix.fill_lightest.Given as goal

abbrev pub invariant-loop-w : goal.invariant-loop-w
invariant-loop-w l =
    (l.place ≡ start l.w) × (l.found ≤ length l.part) × (length l.part ≡ length l.initial.part)
    × (goes (keep (eligible l.errors l.checks) (drop l.place column_order)) l.part l.found
    ≡ filled_from (keep (eligible l.errors l.checks) column_order) l.initial.part)
