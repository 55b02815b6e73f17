-- `acam::encode::write_digits` meets its contract: the rule cells stay, and the check cells have their first s digits. Assumes nothing.
use mathlib.Core.Path.{◌≡◌}
use Prim.Native.Nat.{◌-◌, ◌^◌}
use lib.ListN.{length, take, drop}
use Rattle.parity.specs.Lists.{tabulate}
use Rattle.acam.proofs.DigitCells.{cell_at}
use Rattle.acam.proofs.encode.write_digits.Given as goal

abbrev pub invariant-loop : goal.invariant-loop
invariant-loop l =
    (l.power ≡ l.radix ^ l.counter) × (length l.row ≡ length l.initial.row) × (take l.width l.row ≡ take l.width l.initial.row)
    × (drop l.width l.row ≡ tabulate (length l.initial.row - l.width) (cell_at l.radix (take l.width l.rules) (take l.width l.initial.row) l.counter))
