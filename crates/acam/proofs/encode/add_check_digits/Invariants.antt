-- `acam::encode::add_check_digits` meets its contract: the first l cells have their digit, the rest is as it was. Assumes nothing.
use mathlib.Core.Path.{◌≡◌}
use Rattle.parity.proofs.Filled.{filled}
use Rattle.acam.specs.Digits.{completed}
use Rattle.acam.proofs.encode.add_check_digits.Given as goal

abbrev pub invariant-loop-l : goal.invariant-loop-l
invariant-loop-l l =
    l.cells ≡ filled (completed l.initial.cells l.sums l.radix l.power) l.initial.cells l.l
