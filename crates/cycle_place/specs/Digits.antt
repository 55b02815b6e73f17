-- Only serves the code's own contracts: the numbers that the tests of a digit share.
use Rattle.std.specs.Prelude.{ℕ, ◌^◌}
use Rattle.parity.specs.declared.Shape.{Shape}
use Rattle.schedule.specs.Index.{span}
use Rattle.cycle_place.specs.declared.digits.Digit.{Digit}

-- s, q / ρ^s and ρ^s
abbrev pub digit_at : Shape → ℕ → Digit
digit_at shape s = record { number = s; span = span shape s; unit = shape.radix ^ s }
