-- A text that stands in a lent buffer.
use Rattle.std.specs.Prelude.{◌≡◌, List, ◌++◌, ℕ, ◌+◌, length, take, drop}

-- a buffer with a text written at a place, the other bytes as they were
unfoldable pub written : ℕ → List ℕ → List ℕ → List ℕ
written at text out = take at out ++ text ++ drop (at + length text) out

-- What a function that writes a text at a place of a buffer gives: the place after it, and the buffer.
pub record Wrote (at : ℕ) (text out : List ℕ) (end : ℕ) (after : List ℕ) : Type 0 where
  pub place : end ≡ at + length text
  pub bytes : after ≡ written at text out
