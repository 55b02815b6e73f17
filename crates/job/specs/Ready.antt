-- Only serves the code's own contracts: a job that is taken, with its shape in hand.
use Rattle.std.specs.Prelude.{◌≡◌, List, ℕ}
use Rattle.parity.specs.declared.Shape.{Shape}
use Rattle.job_parse.specs.Parse.{job_shape, job_refusal}

pub record Ready (input : List ℕ) (s : Shape) : Type 0 where
  pub none : job_refusal input ≡ 0
  pub shape : s ≡ job_shape input
