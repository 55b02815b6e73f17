-- The router's questions after those on the shape: 18, then 6 on cells and belts together with the buffers among the arguments. Assumes nothing.
use mathlib.Core.Path.{◌≡◌, ap}
use mathlib.Core.Bool.{Bool}
use mathlib.Core.List.{List, [], ◌∷◌, ◌++◌}
use Prim.Native.Nat.{ℕ, suc}
use lib.Dec.{eqb}
use lib.ListN.{length}
use Rattle.parity.specs.Lists.{alongside}
use Rattle.parity.specs.Questions.{Question, question, first_no, lengths_question}
use Rattle.parity.specs.declared.Shape.{Shape}
use Rattle.shape.specs.Shapes.{sizes_of}
use Rattle.shape.specs.declared.sizes.Sizes.{Sizes}
use Rattle.shape.proofs.Refusals.{first-after, lengths-apart}
use Rattle.array_memory.specs.Lengths.{cells_wanted}
use Rattle.router_questions.specs.Questions.{features_question}

-- by the buffers that are lent beside the cells, those of the array and the belts and those among the arguments, and by what is asked after them
module _ (s : Shape) (cells : ℕ) (others wants lent wanted : List ℕ) (more : List Question) where
  -- 18, 6, and the rest
  abbrev pub lengths_first : List Question
  lengths_first = features_question s ∷ lengths_question (cells ∷ others) (cells_wanted s ++ wants) ∷ lengths_question lent wanted ∷ more

  -- the code's tests are these
  pub lengths-tested :
      (told : Bool) (z : Sizes) → z ≡ sizes_of s → length others ≡ length wants
      → told ≡ alongside eqb (cells ∷ others ++ lent) (z.cells ∷ wants ++ wanted)
      → first_no (features_question s ∷ question 6 told ∷ more) ≡ first_no lengths_first
  lengths-tested told z e same test =
      first-after (features_question s ∷ []) (question 6 told ∷ more)
      (lengths_question (cells ∷ others) (cells_wanted s ++ wants) ∷ lengths_question lent wanted ∷ more)
      (rw (test, e) (lengths-apart (cells ∷ others) (cells_wanted s ++ wants) lent wanted more (ap suc same)))
