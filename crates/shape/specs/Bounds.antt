-- Only serves the code's own contracts: what its functions ask of the numbers that they are given.
use Rattle.std.specs.Prelude.{◌≡◌, ℕ, ◌≤◌}

-- a number from a least to a most
pub record Within (least number most : ℕ) : Type 0 where
  pub low : least ≤ number
  pub high : number ≤ most

-- two buffers of one length, which a byte can count
pub record Comparable (one other : ℕ) : Type 0 where
  pub same : one ≡ other
  pub few : one ≤ 255
