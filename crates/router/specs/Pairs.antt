-- Only serves the code's own contracts: buffers of which one has two bytes for each byte of the others.
use Rattle.std.specs.Prelude.{◌≡◌, List, ℕ, ◌+◌, ◌≤◌, ◌<◌, length, get_or}

-- pairs of the first and the second bytes, none of the second being above the top level, are to be made in a buffer
pub record PairsLent (top : ℕ) (xs ys : List ℕ) (room : ℕ) : Type 0 where
  pub same : length ys ≡ length xs
  pub twice : room ≡ length xs + length xs
  pub below : (i : ℕ) → i < length ys → get_or ys i 0 ≤ top

-- pairs are to be taken apart into two buffers of one length
pub record PairsRead (pairs lows highs : ℕ) : Type 0 where
  pub same : highs ≡ lows
  pub twice : lows + lows ≤ pairs
