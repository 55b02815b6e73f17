-- Only serves the code's own contracts: a row that is lent to be written from its levels.
use Rattle.std.specs.Prelude.{◌≡◌, ℕ}
use Rattle.parity.specs.Shape.{checks, columns}
use Rattle.parity.specs.Questions.{Taken}
use Rattle.parity.specs.declared.Shape.{Shape}

-- a shape taken, with its check columns, a row of n cells and k levels
pub record RowLent (s : Shape) (r row given : ℕ) : Type 0 where
  pub taken : Taken s
  pub checks : r ≡ checks s
  pub cells : row ≡ columns s
  pub levels : given ≡ s.width
