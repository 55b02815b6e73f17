-- `array::write::put_row` meets its contract: the finished row fills the part of the cells that is the row. Assumes nothing.
use mathlib.Core.Path.{◌≡◌, sym, ap, ◌∙◌}
use mathlib.Core.List.{List}
use Prim.Native.Nat.{ℕ, ◌+◌, ◌-◌, ◌*◌}
use native.Mathlib.Omega.{arith}
use lib.ListN.{length}
use borrow.Rule.Slice.PartMut.{mid_of}
use Rattle.parity.specs.Shape.{columns}
use Rattle.parity.specs.declared.Shape.{Shape}
use Rattle.parity.proofs.Filled.{filled_from-whole}
use Rattle.shape.specs.Shapes.{Passed}
use Rattle.shape.specs.declared.sizes.Sizes.{Sizes}
use Rattle.array_memory.specs.Geometry.{with_row}
use Rattle.array_memory.specs.Memory.{with_cells}
use Rattle.array_memory.proofs.RowPlaces.{part-sized, row_back}
use Rattle.array_questions.specs.Questions.{cells_questions, commit_arguments}
use Rattle.array_questions.proofs.Asked.{RowLies, row_lies, cells-parts, Commits, commit-reads}
use Rattle.array.specs.Calls.{row_written}
use Rattle.array.proofs.write.put_row.Goals as goal

module _
    (s : Shape) (z : Sizes) (cells row : ℕ) (finished : List ℕ) (p : Passed (cells_questions s cells (commit_arguments s row finished)) s z) where
  given : RowLies s z cells row × Commits s row finished
  given =
      let parts = cells-parts s cells (commit_arguments s row finished) p.none in
      let reads = commit-reads s row finished parts.1 in
      (row_lies s z cells row parts.0 p.sizes reads.place, reads)

  lies : RowLies s z cells row
  lies = given.0

pub overflow_mul-start : goal.overflow_mul-start
overflow_mul-start c = omega (arith, lies _ _ _ _ _ c.requires)

pub overflow_add-end : goal.overflow_add-end
overflow_add-end c = omega (arith, lies _ _ _ _ _ c.requires)

pub slice_bounds-copy-end : goal.slice_bounds-copy-end
slice_bounds-copy-end c = omega (arith, lies _ _ _ _ _ c.requires)

-- the row is written
pub returns : goal.returns
unfolding row_written
returns c =
    let args = c.args in
    let cells = args.cells.now in
    let s = args.shape in
    let n = columns s in
    let known = given s args.sizes (length cells) args.row args.finished.now c.requires in
    let lent = known.0 in
    let at = args.row * args.sizes.columns in
    let part = mid_of at (at + args.sizes.columns - at) cells in
    let sized : length part ≡ n = part-sized s cells args.row lent.counted lent.place _ lent.wide in
    let whole = c.copy.ensures ∙ filled_from-whole args.finished.now part (known.1.sound.sized ∙ sym sized) in
    λ mem. ap (λ cells. with_cells cells mem) (sym (row_back cells args.row n _ lent.wide _ ∙ ap (with_row n cells args.row) whole))
