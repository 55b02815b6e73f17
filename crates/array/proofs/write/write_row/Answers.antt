-- `array::write::write_row` meets its contract: the part of the cells that is the row is programmed. Assumes nothing.
use mathlib.Core.Path.{sym, ap, ◌∙◌}
use mathlib.Core.List.{List}
use Prim.Native.Nat.{ℕ}
use native.Mathlib.Omega.{arith}
use lib.ListN.{length}
use Rattle.parity.specs.Shape.{columns}
use Rattle.parity.specs.declared.Shape.{Shape}
use Rattle.shape.specs.Shapes.{Passed}
use Rattle.shape.specs.declared.sizes.Sizes.{Sizes}
use Rattle.array_memory.specs.Geometry.{with_row}
use Rattle.array_memory.specs.Memory.{with_cells}
use Rattle.array_memory.proofs.RowPlaces.{part-sized, row_back}
use Rattle.array_questions.specs.Questions.{cells_questions, program_arguments}
use Rattle.array_questions.proofs.Asked.{RowLies, row_lies, cells-parts, Programs, program-reads}
use Rattle.array.specs.Calls.{row_written}
use Rattle.array.proofs.write.write_row.Goals as goal

module _
    (s : Shape) (z : Sizes) (cells row : ℕ) (levels : List ℕ) (p : Passed (cells_questions s cells (program_arguments s row levels)) s z) where
  given : RowLies s z cells row × Programs s row levels
  given =
      let parts = cells-parts s cells (program_arguments s row levels) p.none in
      let reads = program-reads s row levels parts.1 in
      (row_lies s z cells row parts.0 p.sizes reads.place, reads)

  lies : RowLies s z cells row
  lies = given.0

pub overflow_mul-start : goal.overflow_mul-start
overflow_mul-start c = omega (arith, lies _ _ _ _ _ c.requires)

pub overflow_add-end : goal.overflow_add-end
overflow_add-end c = omega (arith, lies _ _ _ _ _ c.requires)

pub slice_bounds-program_row-end : goal.slice_bounds-program_row-end
slice_bounds-program_row-end c = omega (arith, lies _ _ _ _ _ c.requires)

pub program_row-requires : goal.program_row-requires
program_row-requires c =
    let args = c.args in
    let known = given args.shape args.sizes (length args.cells.now) args.row args.given.now c.requires in
    let lent = known.0 in
    record {
      taken = lent.taken;
      checks = lent.checks;
      cells = part-sized args.shape args.cells.now args.row lent.counted lent.place _ lent.wide;
      levels = known.1.sized;
    }

-- the row is written
pub returns : goal.returns
unfolding row_written
returns c =
    let args = c.args in
    let n = columns args.shape in
    let lent = lies args.shape args.sizes (length args.cells.now) args.row args.given.now c.requires in
    let back = row_back args.cells.now args.row n _ lent.wide _ in
    λ mem. ap (λ cells. with_cells cells mem) (sym (back ∙ ap (with_row n args.cells.now args.row) c.program_row.ensures))
