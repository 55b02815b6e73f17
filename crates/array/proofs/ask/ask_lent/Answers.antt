-- `array::ask::ask_lent` meets its contract: `program_row` writes the finished row, and it is held against the part of the cells that is the row.
-- Assumes nothing.
use mathlib.Core.Path.{◌≡◌, sym, ap, ap₂, ◌∙◌}
use mathlib.Core.List.{List}
use Prim.Native.Nat.{ℕ}
use native.Mathlib.Omega.{arith}
use lib.ListN.{length}
use Rattle.parity.specs.Lists.{differences}
use Rattle.parity.specs.Shape.{columns}
use Rattle.parity.specs.declared.Shape.{Shape}
use Rattle.parity.proofs.Encoding.{encode-sized}
use Rattle.parity.proofs.Sizes.{columns-high}
use Rattle.shape.specs.Answers.{accepted, giving}
use Rattle.shape.specs.Shapes.{Passed}
use Rattle.shape.specs.declared.sizes.Sizes.{Sizes}
use Rattle.shape.proofs.Calling.{call-done}
use Rattle.array_memory.specs.Memory.{with_cells}
use Rattle.array_memory.proofs.RowPlaces.{row-part, part-sized}
use Rattle.array_questions.specs.Questions.{cells_questions, ask_arguments}
use Rattle.array_questions.proofs.Asked.{RowLies, row_lies, cells-parts, Programs, ask-reads}
use Rattle.array.specs.Calls.{ask_call}
use Rattle.array.proofs.ask.ask_lent.Goals as goal

module _
    (s : Shape) (z : Sizes) (cells row : ℕ) (levels : List ℕ) (buffer : ℕ)
    (p : Passed (cells_questions s cells (ask_arguments s row levels buffer)) s z) where
  given : RowLies s z cells row × ((buffer ≡ columns s) × Programs s row levels)
  given =
      let parts = cells-parts s cells (ask_arguments s row levels buffer) p.none in
      let reads = ask-reads s row levels buffer parts.1 in
      (row_lies s z cells row parts.0 p.sizes reads.1.place, reads)

  lies : RowLies s z cells row
  lies = given.0

pub overflow_mul-start : goal.overflow_mul-start
overflow_mul-start c = omega (arith, lies _ _ _ _ _ _ c.requires)

pub overflow_add-end : goal.overflow_add-end
overflow_add-end c = omega (arith, lies _ _ _ _ _ _ c.requires)

pub program_row-requires : goal.program_row-requires
program_row-requires c =
    let args = c.args in
    let known = given args.shape args.sizes (length args.cells.now) args.row args.given.now (length args.finished.now) c.requires in
    record { taken = known.0.taken; checks = known.0.checks; cells = known.1.0; levels = known.1.1.sized }

pub slice_bounds-count_differences-end : goal.slice_bounds-count_differences-end
slice_bounds-count_differences-end c = omega (arith, lies _ _ _ _ _ _ c.requires)

pub count_differences-requires : goal.count_differences-requires
count_differences-requires c =
    let args = c.args in
    let known = given args.shape args.sizes (length args.cells.now) args.row args.given.now (length args.finished.now) c.requires in
    let lent = known.0 in
    let long = ap length c.program_row.ensures ∙ encode-sized args.shape args.given.now known.1.1.sized in
    let part = part-sized args.shape args.cells.now args.row lent.counted lent.place _ lent.wide in
    record { same = long ∙ sym part; few = omega (arith, long, columns-high args.shape lent.taken) }

-- the row is finished
pub returns : goal.returns
unfolding ask_call
returns c =
    let args = c.args in
    let finished = c.program_row.ensures in
    let lent = lies args.shape args.sizes (length args.cells.now) args.row args.given.now (length args.finished.now) c.requires in
    let stands = row-part args.cells.now args.row (columns args.shape) _ lent.wide in
    let changed = c.from.ensures ∙ c.count_differences.ensures ∙ ap₂ differences finished stands in
    λ mem. call-done _ args.finished.now (with_cells args.cells.now mem) _ c.requires.none
    ∙ sym (λ i. giving (accepted (changed i)) (finished i) (with_cells args.cells.now mem))
