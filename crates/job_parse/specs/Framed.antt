-- Only serves the code's own contracts: a job whose frame and shape have passed their questions.
use Rattle.std.specs.Prelude.{◌≡◌, List, ℕ, ◌≤◌, length}
use Rattle.parity.specs.Questions.{Taken}
use Rattle.parity.specs.declared.Shape.{Shape}
use Rattle.shape.specs.declared.sizes.Sizes.{Sizes}
use Rattle.shape.specs.Shapes.{sizes_of}
use Rattle.job_parse.specs.Parse.{job_shape, most_bytes}

pub record Framed (input : List ℕ) (s : Shape) (z : Sizes) : Type 0 where
  pub long : 13 ≤ length input
  pub short : length input ≤ most_bytes
  pub shape : s ≡ job_shape input
  pub taken : Taken s
  pub sizes : z ≡ sizes_of s
