-- `cycle_lookup::column::count_test` meets its contract: the column's cells are held, the test is counted by them, and `end_test` does the rest.
-- Assumes nothing.
use mathlib.Core.Path.{◌≡◌, refl, sym, ap, ap₂, ◌∙◌}
use Prim.Native.Nat.{ℕ, ◌*◌, ◌^◌, ◌≤◌}
use native.Mathlib.Omega.{arith}
use lib.ListN.{length}
use Rattle.parity.specs.Shape.{cell_count}
use Rattle.parity.specs.Questions.{Taken}
use Rattle.parity.specs.declared.Shape.{Shape}
use Rattle.parity.proofs.Taken.{limits}
use Rattle.array_memory.specs.Memory.{Memory, with_array, with_rows}
use Rattle.cycle_passes.specs.Passes.{column_cells, column_matches}
use Rattle.cycle_place.specs.Walk.{Stands, test_of}
use Rattle.cycle_place.specs.declared.Place.{Place}
use Rattle.cycle_lookup.specs.Lookup.{entry_matches}
use Rattle.cycle_lookup.proofs.Passes.{test-proper, test-matches, test-made}
use Rattle.cycle_lookup.proofs.column.count_test.Goals as goal

-- a × ρ^s, which is a byte
input-high : (z : ℕ) (s : Shape) → Taken s → (p : Place) → Stands z s p → (unit : ℕ) → unit ≡ s.radix ^ p.digit → p.factor * unit ≤ 255
input-high z s taken p stands unit power =
    let limit = limits s taken in
    omega (arith, ap (λ power. p.factor * power) power, (test-proper z s taken p stands).input)

pub overflow_cast-radix : goal.overflow_cast-radix
overflow_cast-radix c =
    let limit = limits c.args.shape c.requires.test_next.taken in
    omega arith

pub overflow_mul-input : goal.overflow_mul-input
overflow_mul-input c =
    let next = c.requires.test_next in
    omega (arith, input-high c.args.skip c.args.shape next.taken c.args.place next.stands c.args.unit c.requires.holding.unit)

pub overflow_cast-input : goal.overflow_cast-input
overflow_cast-input c =
    let next = c.requires.test_next in
    omega (arith, input-high c.args.skip c.args.shape next.taken c.args.place next.stands c.args.unit c.requires.holding.unit)

pub hold_column-requires : goal.hold_column-requires
unfolding cell_count
hold_column-requires c =
    let next = c.requires.test_next in
    let lent = c.requires.rows_lent in
    record {
      column_lent = record {
        column = omega (arith, next.stands.column, next.columns);
        cells = omega (arith, lent.memory.cells, ap₂ ◌*◌ lent.matches next.columns);
      };
      bytes_value = λ same.
          c.requires.holding.column same
          ∙ ap (λ n. column_cells n c.args.place.column c.args.cells.now (length c.args.matches.now)) (sym next.columns);
    }

pub returns-clause-stepped : goal.returns-clause-stepped
returns-clause-stepped c =
    let args = c.args in
    let next = c.requires.test_next in
    let lent = c.requires.rows_lent in
    let input = ap (λ power. args.place.factor * power) c.requires.holding.unit in
    let looked :
    (mem : Memory)
    → column_matches (args.place.factor * args.unit) args.lines.now c.hold_column.new.bytes
    ≡ entry_matches args.shape (test_of args.skip args.shape args.place) (with_array args.cells.now args.lines.now mem) =
    λ mem.
    test-matches args.skip args.shape next.taken args.place next.stands (with_array args.cells.now args.lines.now mem) lent.memory.cells
    args.columns (length args.matches.now) _ next.columns lent.matches input c.hold_column.ensures refl in
    let rows = with_rows args.counters.now args.flags.now args.totals.now in
    let told = c.end_test.ensures in
    λ mem.
    test-made args.skip args.shape args.place next.stands.unskipped args.ends next.ends (with_array args.cells.now args.lines.now (rows mem))
    lent.memory (looked (rows mem)) c.count_column.ensures told.counted told.flagged told.totalled
