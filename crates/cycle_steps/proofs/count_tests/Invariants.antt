-- What is held in the loop of `cycle_steps::count_tests`: what is known after some tests (HeldColumn.antt), the numbers of a digit, and that the
-- steps to come lead where all of them lead. Assumes nothing.
use mathlib.Core.Path.{◌≡◌}
use Prim.Native.Nat.{◌-◌}
use Rattle.array_memory.specs.Memory.{Memory, with_all}
use Rattle.cycle_place.specs.Digits.{digit_at}
use Rattle.cycle_steps.specs.Steps.{stepping}
use Rattle.cycle_steps.specs.Tests.{tested_at}
use Rattle.cycle_steps.proofs.HeldColumn.{Held}
use Rattle.cycle_steps.proofs.count_tests.Given as goal

abbrev pub invariant-loop : goal.invariant-loop
invariant-loop l =
    record {
      held : Held l.skip l.shape l.cells l.lines l.counters l.flags l.totals l.matches l.now l.last;
      digit : l.digit ≡ digit_at l.shape l.digit.number;
      left :
          (mem : Memory)
          → stepping l.shape l.most
          (tested_at l.skip l.shape l.initial.last (with_all l.cells l.lines l.initial.counters l.initial.flags l.initial.totals mem) l.initial.now)
          ≡ stepping l.shape (l.most - l.counter) (tested_at l.skip l.shape l.last (with_all l.cells l.lines l.counters l.flags l.totals mem) l.now);
    }
