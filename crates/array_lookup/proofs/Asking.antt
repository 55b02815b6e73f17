-- A lookup's questions after those on the shape: 6 on cells and lines together with the buffers among the arguments, then 8 on the inputs. Assumes nothing.
use mathlib.Core.Path.{◌≡◌, refl, ap, ◌∙◌}
use mathlib.Core.Bool.{Bool}
use mathlib.Core.List.{List, [], ◌∷◌}
use Prim.Native.Nat.{ℕ}
use lib.Dec.{eqb, leb}
use Rattle.parity.specs.Lists.{every, alongside}
use Rattle.parity.specs.Shape.{levels}
use Rattle.parity.specs.Questions.{Question, question, first_no, lengths_question, inputs_question}
use Rattle.parity.specs.declared.Shape.{Shape}
use Rattle.shape.specs.Shapes.{sizes_of}
use Rattle.shape.specs.declared.sizes.Sizes.{Sizes}
use Rattle.shape.proofs.Refusals.{lengths-apart}
use Rattle.array_memory.specs.Lengths.{array_wanted}

-- by the buffers that are lent beside cells and lines, and their lengths
module _ (s : Shape) (cells lines : ℕ) (lent wanted inputs : List ℕ) where
  -- 6, and 8
  abbrev pub six : List Question
  six = lengths_question (cells ∷ lines ∷ []) (array_wanted s) ∷ lengths_question lent wanted ∷ []

  abbrev pub eight : List Question
  eight = inputs_question (levels s) inputs ∷ []

  -- the code's tests are these
  pub six-tested :
      (told : Bool) (z : Sizes) → z ≡ sizes_of s → told ≡ alongside eqb (cells ∷ lines ∷ lent) (z.cells ∷ s.rows ∷ wanted)
      → first_no (question 6 told ∷ []) ≡ first_no six
  six-tested told z e test = rw (test, e) (lengths-apart (cells ∷ lines ∷ []) (array_wanted s) lent wanted [] refl)

  pub eight-tested :
      (told : Bool) (z : Sizes) → z ≡ sizes_of s → told ≡ every (λ v. leb v z.levels) inputs → first_no (question 8 told ∷ []) ≡ first_no eight
  eight-tested told z e test = ap (λ t. first_no (question 8 t ∷ [])) (test ∙ ap (λ z. every (λ v. leb v z.levels) inputs) e)
