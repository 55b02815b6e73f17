-- Question 8 by the code's test, where the number of levels in hand is the shape's. Assumes nothing.
use mathlib.Core.Path.{◌≡◌, sym, ap}
use mathlib.Core.Bool.{Bool}
use mathlib.Core.List.{List, [], ◌∷◌}
use Prim.Native.Nat.{ℕ}
use lib.Dec.{ltb}
use Rattle.parity.specs.Lists.{every}
use Rattle.parity.specs.Shape.{levels}
use Rattle.parity.specs.Questions.{question, first_no, levels_question}
use Rattle.parity.specs.declared.Shape.{Shape}
use Rattle.shape.specs.Shapes.{sizes_of}
use Rattle.shape.specs.declared.sizes.Sizes.{Sizes}
use Rattle.shape.proofs.Refusals.{levels-tested}

pub leveled :
    (s : Shape) (given : List ℕ) (told : Bool) (z : Sizes) → z ≡ sizes_of s → told ≡ every (λ v. ltb v z.levels) given
    → first_no (question 8 told ∷ []) ≡ first_no (levels_question (levels s) given ∷ [])
leveled s given told z e test = ap (λ t. first_no (question 8 t ∷ [])) (sym (levels-tested s (ap (λ z. z.levels) e) given test))
