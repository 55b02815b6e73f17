-- The front part of an array of 254 bytes, in which a call makes k inputs of its own: that there is one, and what it holds when it is back. Assumes nothing.
use mathlib.Core.Path.{◌≡◌, ◌∙◌}
use mathlib.Core.List.{List, ◌++◌}
use Prim.Native.Nat.{ℕ, ◌≤◌}
use native.Mathlib.Omega.{arith}
use lib.ListN.{length, take, drop, replicate, length-append}
use lib.Seq.{take_at, length-take-le}
use Rattle.parity.specs.Shape.{columns}
use Rattle.parity.specs.Questions.{Taken}
use Rattle.parity.specs.declared.Shape.{Shape}
use Rattle.parity.proofs.Redundancy.{redundancy_claim}
use Rattle.parity.proofs.Sizes.{columns-high}

-- the array before anything is written
abbrev pub blank : List ℕ
blank = replicate 254 0

-- the front part is within the array, and what it holds
pub record Holds (width : ℕ) (array held : List ℕ) : Type 0 where
  pub within : width ≤ length array
  pub sized : length (take width array) ≡ width
  pub part : take width array ≡ held

module _ (s : Shape) (t : Taken s) where
  pub front_fits : s.width ≤ 254
  unfolding columns
  front_fits = omega (arith, columns-high s t, (redundancy_claim s t).low)

  pub front-sized : length (take s.width blank) ≡ s.width
  front-sized = length-take-le s.width blank front_fits

  pub front-held : (made held : List ℕ) → length made ≡ s.width → made ≡ held → Holds s.width (made ++ drop s.width blank) held
  front-held made held sized are =
      let rest = drop s.width blank in
      let within : s.width ≤ length (made ++ rest) = omega (arith, length-append made rest) in
      record {
        within = within;
        sized = length-take-le s.width (made ++ rest) within;
        part = take_at made rest s.width sized ∙ are;
      }
