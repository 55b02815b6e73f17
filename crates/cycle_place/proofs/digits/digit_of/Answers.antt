-- `cycle_place::digits::digit_of` meets its contract: q / ρ^s is a power of ρ, and so is ρ^s, each at most q. Assumes nothing.
use mathlib.Core.Path.{sym, ◌∙◌}
use native.Mathlib.Nat.{one-mul}
use native.Mathlib.Omega.{arith}
use Rattle.parity.proofs.Taken.{limits}
use Rattle.cycle_place.proofs.Spans.{span-as, span-high, unit-high}
use Rattle.cycle_place.proofs.digits.digit_of.Goals as goal

pub scale-span-requires : goal.scale-span-requires
scale-span-requires c =
    let s = c.args.shape in
    let d = c.args.number in
    let t = c.requires.taken in
    record {
      radix_nonzero = omega (arith, (limits s t).radix_low);
      exponent_bound = omega (arith, span-as s t d c.requires.number_le_digits, span-high s t d);
    }

pub scale-unit-requires : goal.scale-unit-requires
scale-unit-requires c =
    let s = c.args.shape in
    let t = c.requires.taken in
    record {
      radix_nonzero = omega (arith, (limits s t).radix_low);
      exponent_bound = omega (arith, unit-high s t c.args.number c.requires.number_le_digits);
    }

pub returns : goal.returns
returns c =
    let span = c.scale-span.ensures ∙ one-mul _ ∙ sym (span-as c.args.shape c.requires.taken c.args.number c.requires.number_le_digits) in
    let unit = c.scale-unit.ensures ∙ one-mul _ in
    λ i. record { number = c.args.number; span = span i; unit = unit i }
