-- What it says of a lookup's cells, lines and arguments that no question on them fails. Assumes nothing.
use mathlib.Core.Path.{◌≡◌, refl, ap}
use mathlib.Core.List.{List, [], ◌∷◌}
use Prim.Native.Nat.{ℕ, ◌*◌}
use native.Mathlib.Omega.{arith}
use lib.Dec.{lit<}
use lib.ListN.{length}
use Rattle.parity.specs.Shape.{columns, cell_count}
use Rattle.parity.specs.Questions.{Question, first_no, lengths_question}
use Rattle.parity.specs.declared.Shape.{Shape}
use Rattle.parity.proofs.Taken.{first-yes, limits}
use Rattle.shape.specs.Shapes.{sizes_of}
use Rattle.shape.specs.declared.sizes.Sizes.{Sizes}
use Rattle.shape.proofs.Refusals.{length-lent, call-passed}
use Rattle.array_memory.specs.Lengths.{array_wanted}
use Rattle.array_memory.proofs.Asked.{array-counted}
use Rattle.array_questions.proofs.Asked.{CellsTaken}
use Rattle.array_lookup.specs.Lookups.{array_questions, lookup_arguments, first_arguments}
use Rattle.array_lookup.specs.Rows.{RowsLent}

-- a shape that is taken, m × n cells, m lines and k inputs
pub record ArrayTaken (s : Shape) (cell_number line_number : ℕ) (given : List ℕ) : Type 0 where
  pub cells : CellsTaken s cell_number
  pub lines : line_number ≡ s.rows
  pub inputs : length given ≡ s.width

module _ (s : Shape) (cells lines : ℕ) where
  array_parts :
      (more : List Question) → first_no (array_questions s cells lines more) ≡ 0 → CellsTaken s cells × (lines ≡ s.rows) × (first_no more ≡ 0)
  array_parts more none =
      let p = call-passed s [] (lengths_question (cells ∷ lines ∷ []) (array_wanted s)) more refl (lit< tt) none in
      let at = array-counted s cells lines p.lent in
      (record { taken = p.taken; counted = at.0 }, at.1, p.arguments)

  pub first_taken : (inputs : List ℕ) → first_no (array_questions s cells lines (first_arguments s inputs)) ≡ 0 → ArrayTaken s cells lines inputs
  first_taken inputs none =
      let parts = array_parts (first_arguments s inputs) none in
      let six = first-yes _ _ 6 (lit< tt) parts.2 in
      record { cells = parts.0; lines = parts.1; inputs = length-lent (length inputs ∷ []) (s.width ∷ []) six.0 0 }

  -- .. and m match bytes
  pub lookup-taken :
      (inputs : List ℕ) (matches : ℕ) → first_no (array_questions s cells lines (lookup_arguments s inputs matches)) ≡ 0
      → ArrayTaken s cells lines inputs × (matches ≡ s.rows)
  lookup-taken inputs matches none =
      let parts = array_parts (lookup_arguments s inputs matches) none in
      let six = first-yes _ _ 6 (lit< tt) parts.2 in
      let at = length-lent (length inputs ∷ matches ∷ []) (s.width ∷ s.rows ∷ []) six.0 in
      (record { cells = parts.0; lines = parts.1; inputs = at 0 }, at 1)

  -- the rows that a lookup goes through with as many bytes as inputs, by the sizes in hand
  pub rows-lent :
      (z : Sizes) (inputs bytes : List ℕ) → ArrayTaken s cells lines inputs → z ≡ sizes_of s → length bytes ≡ length inputs
      → RowsLent cells lines (length bytes) z.columns s.rows
  unfolding columns cell_count
  rows-lent z inputs bytes p e sized =
      let wide = ap (λ z. z.columns) e in
      record {
        inputs = omega (arith, wide, p.inputs);
        cells = omega (arith, p.cells.counted, ap (λ z. s.rows * z.columns) e);
        lines = p.lines;
        few = (limits s p.cells.taken).rows_high;
      }
