-- `array::cells::read_lent` meets its contract: the rule cells of the row fill the bytes out. Assumes nothing.
use mathlib.Core.Path.{◌≡◌, sym, ap, ◌∙◌}
use mathlib.Core.List.{List}
use Prim.Native.Nat.{ℕ, ◌+◌, ◌-◌, ◌*◌, ◌≤◌}
use native.Mathlib.Omega.{arith}
use lib.ListN.{length, take}
use lib.Seq.{length-take-le}
use borrow.Rule.Slice.PartMut.{mid_of}
use Rattle.parity.specs.Lists.{filled_from}
use Rattle.parity.specs.Shape.{columns}
use Rattle.parity.specs.declared.Shape.{Shape}
use Rattle.parity.proofs.Filled.{filled_from-whole}
use Rattle.shape.specs.Answers.{accepted, giving}
use Rattle.shape.specs.Shapes.{Passed}
use Rattle.shape.specs.declared.sizes.Sizes.{Sizes}
use Rattle.shape.proofs.Calling.{call-done}
use Rattle.array_memory.specs.Geometry.{row_at}
use Rattle.array_memory.specs.Memory.{with_cells}
use Rattle.array_memory.proofs.RowPlaces.{rule-part, row_sized}
use Rattle.array_questions.specs.Questions.{cells_questions, read_arguments}
use Rattle.array_questions.proofs.Asked.{RowLies, row_lies, cells-parts, read-reads}
use Rattle.array.specs.Calls.{read_call}
use Rattle.array.proofs.cells.read_lent.Goals as goal

module _ (s : Shape) (z : Sizes) (cells row out : ℕ) (p : Passed (cells_questions s cells (read_arguments s row out)) s z) where
  given : RowLies s z cells row × (out ≡ s.width)
  given =
      let parts = cells-parts s cells (read_arguments s row out) p.none in
      let reads = read-reads s row out parts.1 in
      (row_lies s z cells row parts.0 p.sizes reads.1, reads.0)

  lies : RowLies s z cells row
  lies = given.0

  -- the end of the rule cells is within the row
  within : row * z.columns + s.width ≤ cells
  unfolding columns
  within = omega (arith, lies)

-- the part of the cells that is lent fills the bytes out
copied :
    (s : Shape) (z : Sizes) (cells : List ℕ) (row : ℕ) (out : List ℕ)
    → Passed (cells_questions s (length cells) (read_arguments s row (length out))) s z
    → filled_from (mid_of (row * z.columns) (row * z.columns + s.width - row * z.columns) cells) out ≡ take s.width (row_at (columns s) cells row)
unfolding columns
copied s z cells row out p =
    let known = given s z (length cells) row (length out) p in
    let lent = known.0 in
    let rule = take s.width (row_at (columns s) cells row) in
    let enough : s.width ≤ length (row_at (columns s) cells row) = omega (arith, row_sized s cells row lent.counted lent.place) in
    ap (λ xs. filled_from xs out) (rule-part cells row (columns s) s.width z.columns lent.wide (omega arith))
    ∙ filled_from-whole rule out (length-take-le s.width (row_at (columns s) cells row) enough ∙ sym known.1)

pub overflow_mul-start : goal.overflow_mul-start
overflow_mul-start c = omega (arith, within _ _ _ _ _ c.requires, lies _ _ _ _ _ c.requires)

pub overflow_add-end : goal.overflow_add-end
overflow_add-end c = omega (arith, within _ _ _ _ _ c.requires, lies _ _ _ _ _ c.requires)

pub slice_bounds-copy-end : goal.slice_bounds-copy-end
slice_bounds-copy-end c = omega (arith, within _ _ _ _ _ c.requires)

-- the row is out
pub returns : goal.returns
unfolding read_call
returns c =
    let args = c.args in
    λ mem. call-done _ args.out.now (with_cells args.cells.now mem) _ c.requires.none
    ∙ ap (λ out. giving (accepted 0) out (with_cells args.cells.now mem))
    (sym (c.copy.ensures ∙ copied args.shape args.sizes args.cells.now args.row args.out.now c.requires))
