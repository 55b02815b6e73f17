-- `array::cells::sound_lent` meets its contract: the soundness test is made on the part of the cells that is the row. Assumes nothing.
use mathlib.Core.Path.{◌≡◌, sym, ap, ◌∙◌}
use mathlib.Core.Bool.{Bool, false}
use mathlib.Core.List.{List, []}
use Prim.Native.Nat.{ℕ, ◌+◌, ◌-◌, ◌*◌}
use native.Mathlib.Omega.{arith}
use lib.ListN.{length}
use borrow.Rule.Slice.PartMut.{mid_of}
use Rattle.parity.specs.Shape.{columns}
use Rattle.parity.specs.Codeword.{is_codeword}
use Rattle.parity.specs.declared.Shape.{Shape}
use Rattle.parity.specs.Questions.{first_no}
use Rattle.shape.specs.Answers.{accepted, answering}
use Rattle.shape.specs.Shapes.{Passed}
use Rattle.shape.specs.declared.sizes.Sizes.{Sizes}
use Rattle.array_memory.specs.Geometry.{row_at}
use Rattle.array_memory.proofs.RowPlaces.{row-part, part-sized}
use Rattle.array_questions.specs.Questions.{cells_questions, sound_arguments}
use Rattle.array_questions.proofs.Asked.{RowLies, row_lies, cells-parts, row_reads}
use Rattle.array.specs.Calls.{sound_call}
use Rattle.array.proofs.cells.sound_lent.Goals as goal

module _ (s : Shape) (z : Sizes) (cells row : ℕ) (p : Passed (cells_questions s cells (sound_arguments s row)) s z) where
  lies : RowLies s z cells row
  lies =
      let parts = cells-parts s cells (sound_arguments s row) p.none in
      row_lies s z cells row parts.0 p.sizes (row_reads s row [] parts.1).0

-- what is said of a row that the test has this result for
tested :
    (s : Shape) (z : Sizes) (cells : List ℕ) (row : ℕ) (p : Passed (cells_questions s (length cells) (sound_arguments s row)) s z) (result : Bool)
    → result ≡ is_codeword s (mid_of (row * z.columns) (row * z.columns + z.columns - row * z.columns) cells)
    → answering false (first_no (cells_questions s (length cells) (sound_arguments s row))) (is_codeword s (row_at (columns s) cells row))
    ≡ accepted result
tested s z cells row p result e =
    let lent = lies s z (length cells) row p in
    ap (λ n. answering false n (is_codeword s (row_at (columns s) cells row))) p.none
    ∙ ap accepted (sym (e ∙ ap (is_codeword s) (row-part cells row (columns s) _ lent.wide)))

pub overflow_mul-start : goal.overflow_mul-start
overflow_mul-start c = omega (arith, lies _ _ _ _ c.requires)

pub overflow_add-end : goal.overflow_add-end
overflow_add-end c = omega (arith, lies _ _ _ _ c.requires)

pub matrix_of-matrix-requires : goal.matrix_of-matrix-requires
matrix_of-matrix-requires c =
    let args = c.args in
    let lent = lies args.shape args.sizes (length args.cells.now) args.row c.requires in
    record { taken = lent.taken; checks = lent.checks }

pub slice_bounds-is_sound-end : goal.slice_bounds-is_sound-end
slice_bounds-is_sound-end c = omega (arith, lies _ _ _ _ c.requires)

pub is_sound-requires-clause-to_test : goal.is_sound-requires-clause-to_test
is_sound-requires-clause-to_test c =
    let args = c.args in
    let lent = lies args.shape args.sizes (length args.cells.now) args.row c.requires in
    record {
      taken = lent.taken;
      checks = lent.checks;
      cells = part-sized args.shape args.cells.now args.row lent.counted lent.place _ lent.wide;
      matrix = c.matrix_of-matrix.ensures;
    }

pub returns : goal.returns
unfolding sound_call
returns c =
    let args = c.args in
    λ mem. tested args.shape args.sizes args.cells.now args.row c.requires _ c.is_sound.ensures
