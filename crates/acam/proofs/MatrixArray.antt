-- The check matrix in an array of 255 bytes, or padded in one of 256: its length, the columns that its first places hold, and how they come there.
-- Assumes nothing.
use mathlib.Core.Path.{◌≡◌, refl, sym, ◌∙◌, ap, ap₂}
use mathlib.Core.List.{List, ◌∷◌, ◌++◌}
use Prim.Native.Nat.{ℕ, zero, suc, ◌+◌, ◌-◌, ◌≤◌}
use native.Mathlib.Nat.{sub-zero, zero-sub, suc-sub-suc}
use native.Mathlib.Omega.{arith}
use lib.ListN.{length, take, drop, replicate, length-append, length-replicate}
use lib.Seq.{take_at, take-append-add, length-take-le}
use Rattle.parity.specs.Shape.{checks, columns}
use Rattle.parity.specs.Matrix.{rule_columns, matrix}
use Rattle.parity.specs.Questions.{Taken}
use Rattle.parity.specs.declared.Shape.{Shape}
use Rattle.parity.proofs.Redundancy.{redundancy_claim}
use Rattle.parity.proofs.MatrixFacts.{rules-sized, matrix_claim}
use Rattle.acam.specs.Matrices.{matrix_array}
use Rattle.acam.specs.Rows.{RulesFit}
use Rattle.parity.proofs.Sizes.{columns-high}
use Rattle.shape.specs.Bounds.{Within}

-- the array before anything is written
abbrev pub zeros : List ℕ
zeros = replicate 255 0

-- .. and that of columns that are padded
abbrev pub blank : List ℕ
blank = replicate 256 0

pub drop-replicate : (n m a : ℕ) → drop n (replicate m a) ≡ replicate (m - n) a
drop-replicate zero m a = rw sub-zero
drop-replicate (suc n) zero a = rw zero-sub
drop-replicate (suc n) (suc m) a = rw suc-sub-suc (drop-replicate n m a)

take-replicate : (n m a : ℕ) → n ≤ m → take n (replicate m a) ≡ replicate n a
take-replicate zero m a h = refl
take-replicate (suc n) zero a h = absurd (omega arith)
take-replicate (suc n) (suc m) a h = ap (λ l. a ∷ l) (take-replicate n m a (omega arith))

module _ (s : Shape) (t : Taken s) where
  pub array-sized : length (matrix_array s) ≡ 255
  unfolding matrix_array
  array-sized =
      omega (
        arith,
        length-append (matrix s) (replicate (255 - columns s) 0),
        length-replicate {A = ℕ} (255 - columns s) 0,
        (matrix_claim s t).sized,
        columns-high s t,
      )

  -- its first n places hold the check matrix
  pub array-matrix : take (columns s) (matrix_array s) ≡ matrix s
  unfolding matrix_array
  array-matrix = take_at (matrix s) (replicate (255 - columns s) 0) (columns s) (matrix_claim s t).sized

module _ (s : Shape) (t : Taken s) (r : ℕ) (counted : r ≡ checks s) where
  -- k + r columns are all
  pub wide : s.width + r ≡ columns s
  unfolding columns
  wide = ap (λ r. s.width + r) counted

  pub fits : s.width + r ≤ 255
  fits = omega (arith, wide, columns-high s t)

  -- the part of a list that is lent for the rule columns: its length, what fills it, and what the filling asks for
  module _ (over : List ℕ) (long : s.width ≤ length over) where
    pub front : length (take s.width over) ≡ s.width
    front = length-take-le s.width over long

    rules-fill : rule_columns s.errors r (length (take s.width over)) ≡ rule_columns s.errors (checks s) s.width
    rules-fill = ap₂ (rule_columns s.errors) counted front

    pub rules-ask : RulesFit s.errors r (length (take s.width over))
    rules-ask = record { checks = omega (arith, (redundancy_claim s t).high); enough = ap length rules-fill ∙ rules-sized s t ∙ sym front }

    -- once they are there
    module _ (rules : List ℕ) (filled : rules ≡ rule_columns s.errors r (length (take s.width over))) where
      pub are-rules : rules ≡ rule_columns s.errors (checks s) s.width
      are-rules = filled ∙ rules-fill

      pub rules-long : length rules ≡ s.width
      rules-long = ap length are-rules ∙ rules-sized s t

      pub rules-held : take s.width (rules ++ drop s.width over) ≡ rules
      rules-held = take_at rules (drop s.width over) s.width rules-long

-- the part of the array in which the columns are made, and what it and the zeros after it hold then
module _ (s : Shape) (t : Taken s) (n : ℕ) (all : n ≡ columns s) where
  pub part-few : n ≤ 255
  part-few = omega (arith, all, columns-high s t)

  pub part-fits : n ≤ 256
  part-fits = omega (arith, part-few)

  pub part-sized : length (take n blank) ≡ n
  part-sized = length-take-le n blank part-fits

  module _ (made : List ℕ) (filled : made ≡ matrix s) (p : ℕ) (bounds : Within n p 256) where
    made-sized : length made ≡ n
    made-sized = ap length filled ∙ (matrix_claim s t).sized ∙ sym all

    pub part-within : p ≤ length (made ++ drop n blank)
    part-within =
        omega (
          arith,
          length-append made (drop n blank),
          made-sized,
          ap length (drop-replicate n 256 0) ∙ length-replicate {A = ℕ} (256 - n) 0,
          part-fits,
          bounds.low,
          bounds.high,
        )

    pub part-padded : take p (made ++ drop n blank) ≡ matrix s ++ replicate (p - n) 0
    part-padded =
        let all : p ≡ length made + (p - n) = omega (arith, made-sized, bounds.low) in
        let rest = ap (take (p - n)) (drop-replicate n 256 0) ∙ take-replicate (p - n) (256 - n) 0 (omega (arith, part-fits, bounds.low, bounds.high)) in
        ap (λ q. take q (made ++ drop n blank)) all ∙ take-append-add made (drop n blank) (p - n) ∙ (λ i. filled i ++ rest i)
