-- `array::drift::drift_lent` meets its contract: the cell lies in its row, and takes the level. Assumes nothing.
use mathlib.Core.Path.{sym, ap, ◌∙◌}
use mathlib.Core.List.{[]}
use Prim.Native.Nat.{◌+◌, ◌*◌, ◌<◌}
use native.Mathlib.Omega.{arith}
use lib.ListN.{length, set}
use Rattle.shape.specs.Answers.{accepted, giving}
use Rattle.shape.proofs.Calling.{call-done}
use Rattle.array_memory.specs.Memory.{with_cells}
use Rattle.array_questions.specs.Questions.{drift_arguments}
use Rattle.array_questions.proofs.Asked.{RowLies, row_lies, cells-parts, drift-reads}
use Rattle.array.specs.Calls.{drifted, drift_call}
use Rattle.array.proofs.drift.drift_lent.Goals as goal

module _ (c : goal.Start) where
  -- the row lies in the cells, and the place in the row
  placed :
      let args = c.args in
      RowLies args.shape args.sizes (length args.cells.now) args.row
      × (args.row * args.sizes.columns + args.column < length args.cells.now)
  placed =
      let args = c.args in
      let s = args.shape in
      let parts = cells-parts s (length args.cells.now) (drift_arguments s args.row args.column args.level) c.requires.none in
      let d = drift-reads s args.row args.column args.level parts.1 in
      let lies = row_lies s args.sizes (length args.cells.now) args.row parts.0 c.requires.sizes d.place in
      (lies, omega arith)

pub overflow_mul-at : goal.overflow_mul-at
overflow_mul-at c = omega (arith, placed c)

pub overflow_add-at : goal.overflow_add-at
overflow_add-at c = omega (arith, placed c)

pub bounds-cells-at : goal.bounds-cells-at
bounds-cells-at c = (placed c).1

-- the level stands
pub returns : goal.returns
unfolding drift_call drifted
returns c =
    let args = c.args in
    let cells = args.cells.now in
    λ mem. call-done _ [] (with_cells cells mem) _ c.requires.none
    ∙ ap (λ n. giving (accepted 0) [] (with_cells (set cells (args.row * n + args.column) args.level) mem)) (sym (placed c).0.wide)
