-- `cycle_steps::make_rest` meets its contract: after the second opening tests are next, and after the first the second is. Assumes nothing.
use mathlib.Core.Path.{◌≡◌, sym, ap, ◌∙◌}
use Prim.Native.Nat.{ℕ, suc, ◌<◌}
use native.Mathlib.Omega.{arith}
use Rattle.std.specs.Prelude.{Some}
use Rattle.parity.specs.declared.Shape.{Shape}
use Rattle.schedule.specs.Schedule.{schedule}
use Rattle.cycle_place.specs.Places.{entry_at, next_at}
use Rattle.cycle_place.specs.declared.Place.{Place}
use Rattle.cycle_lookup.specs.Rows.{opening_of}
use Rattle.cycle.specs.Record.{next_entry, is_next}
use Rattle.cycle.specs.declared.Cycle.{Cycle}
use Rattle.cycle.proofs.CycleRecord.{next-open}
use Rattle.cycle.proofs.Located.{movable}
use Rattle.cycle_steps.specs.Tests.{LookupsLeft}
use Rattle.cycle_steps.proofs.OpeningMade.{after-left, opening-next}
use Rattle.cycle_steps.proofs.make_rest.Goals as goal

pub moved-requires : goal.moved-requires
moved-requires c =
    let s = c.args.shape in
    let cycle = c.args.cycle in
    let taken = c.requires.matrix_lent.taken in
    let left = c.requires.lookups_left in
    movable s taken cycle (ap (is_next s) left.stands ∙ next-open cycle.skip s taken cycle.count left.partial left.more)

-- ---- the second opening

module _ (s : Shape) (cycle : Cycle) (second : cycle.count ≡ 1) where
  here : next_entry s cycle ≡ opening_of s 0
  unfolding entry_at schedule
  here = ap (entry_at cycle.skip s) second

  follows :
      {least : ℕ} (left : LookupsLeft s least cycle) {test : Place} → ((z : ℕ) → z < s.digits → next_at z s 2 ≡ Some test)
      → Some test ≡ next_at cycle.skip s (suc cycle.count)
  follows left first = sym (first cycle.skip left.partial) ∙ ap (λ c. next_at cycle.skip s (suc c)) (sym second)

pub make_tests-requires-2-clause-lookups_left : goal.make_tests-requires-2-clause-lookups_left
make_tests-requires-2-clause-lookups_left c =
    let s = c.args.shape in
    let cycle = c.args.cycle in
    let pre = c.requires in
    let made = c.make_opening.ensures in
    let second : cycle.count ≡ 1 = omega arith in
    after-left s pre.matrix_lent.taken cycle pre.lookups_left (here s cycle second) (follows s cycle second pre.lookups_left c.first-test.ensures)
    pre.rows_lent.memory made.matched made.opened c.moved.ensures 2 (omega arith) (omega arith)

-- the second, and tests after it
pub returns : goal.returns
returns c =
    let s = c.args.shape in
    let cycle = c.args.cycle in
    let pre = c.requires in
    let made = c.make_opening.ensures in
    let second : cycle.count ≡ 1 = omega arith in
    λ mem.
    opening-next s pre.matrix_lent.taken cycle pre.lookups_left (here s cycle second) (follows s cycle second pre.lookups_left c.first-test.ensures)
    pre.rows_lent.memory made.matched made.opened c.moved.ensures mem c.args.most (omega arith) c.args.matches.now pre.rows_lent.matches
    ∙ c.make_tests-2.ensures mem
