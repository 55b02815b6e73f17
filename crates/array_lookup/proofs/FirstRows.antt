-- A first match whose questions have been passed, by what the search over the rows found. Assumes nothing.
use mathlib.Core.Path.{◌≡◌, sym, ap, ◌∙◌}
use mathlib.Core.Bool.{Bool}
use mathlib.Core.List.{List}
use Prim.Native.Nat.{ℕ}
use lib.ListN.{length}
use Rattle.parity.specs.Match.{task_vector}
use Rattle.parity.specs.Shape.{levels, columns}
use Rattle.parity.specs.declared.Shape.{Shape}
use Rattle.shape.specs.Answers.{Found, none, accepted, answering}
use Rattle.shape.specs.Shapes.{Passed}
use Rattle.shape.specs.declared.sizes.Sizes.{Sizes}
use Rattle.array_memory.specs.Geometry.{row_match}
use Rattle.array_memory.specs.Memory.{Memory, with_array}
use Rattle.array_lookup.specs.Lookups.{array_questions, first_arguments, first_row, first_call}
use Rattle.array_lookup.specs.Rows.{RowsLent, byte_of}
use Rattle.array_lookup.proofs.Asked.{ArrayTaken, first_taken, rows-lent}
use Rattle.array_lookup.proofs.Narrowing.{Narrowed}
use Rattle.array_lookup.proofs.RowBytes.{first_byte}

module _
    (s : Shape) (z : Sizes) (cells lines inputs : List ℕ)
    (p : Passed (array_questions s (length cells) (length lines) (first_arguments s inputs)) s z) where
  pub taken : ArrayTaken s (length cells) (length lines) inputs
  taken = first_taken s (length cells) (length lines) inputs p.none

  module _ (below : Bool) (bytes : List ℕ) (narrowed : Narrowed (levels s) inputs below bytes) where
    -- what the search asks
    pub rows-searched : RowsLent (length cells) (length lines) (length bytes) z.columns s.rows
    rows-searched = rows-lent s (length cells) (length lines) z inputs bytes taken p.sizes narrowed.sized

    -- what it found is what the call says
    pub first_said :
        (found : Found) → found ≡ first_row s.rows (byte_of below bytes cells lines z.columns)
        → (mem : Memory) → first_call s (with_array cells lines mem) inputs ≡ accepted found
    unfolding first_call
    first_said found is mem =
        let first = first_row s.rows (row_match (levels s) (columns s) (task_vector s inputs) cells lines) in
        ap (λ n. answering none n first) p.none
        ∙ sym (ap accepted (is ∙ first_byte s z inputs below bytes cells lines taken.cells p.sizes taken.inputs narrowed))
