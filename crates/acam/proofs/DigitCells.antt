-- The check cells of a row, digit after digit: 0 with none, below ρ^s with s of them, and with all of them the encoder's. Assumes nothing.
use mathlib.Core.Path.{◌≡◌, sym, ◌∙◌, ap₂}
use mathlib.Core.List.{List, ◌++◌}
use Prim.Native.Nat.{ℕ, suc, ◌+◌, ◌-◌, ◌*◌, ◌%◌, ◌^◌, ◌<◌}
use native.Mathlib.Nat.{mod-lt}
use lib.ListN.{length, take, drop, replicate, take-append-drop}
use Rattle.parity.specs.Lists.{tabulate}
use Rattle.parity.specs.Shape.{digit, checks}
use Rattle.parity.specs.Matrix.{rule_columns}
use Rattle.parity.specs.Codeword.{number, check_digit, check_cell, encode}
use Rattle.parity.specs.Questions.{Taken}
use Rattle.parity.specs.declared.Shape.{Shape}
use Rattle.parity.proofs.ListLaws.{tabulate-constant}
use Rattle.parity.proofs.Digits.{number-below}
use Rattle.parity.proofs.Sums.{check_sum, digit_sum-check_sum}
use Rattle.parity.proofs.MatrixFacts.{rules-sized}
use Rattle.acam.specs.Digits.{missing}

-- check cell ℓ with its first s digits, beside these rule columns and rule cells
abbrev pub cell_at : ℕ → List ℕ → List ℕ → ℕ → ℕ → ℕ
cell_at ρ cs rule s ℓ = number ρ s (λ t. missing ρ (check_sum (digit ρ t) ℓ cs rule))

module _ (ρ : ℕ) (cs rule : List ℕ) where
  pub no-digits : (r : ℕ) → replicate r 0 ≡ tabulate r (cell_at ρ cs rule 0)
  unfolding number
  no-digits r = sym (tabulate-constant r 0)

  pub cell_below : (s ℓ : ℕ) → 0 < ρ → cell_at ρ cs rule s ℓ < ρ ^ s
  cell_below s ℓ pos = number-below ρ s (λ t. missing ρ (check_sum (digit ρ t) ℓ cs rule)) (λ t h. mod-lt (ρ - check_sum (digit ρ t) ℓ cs rule % ρ) pos)

  pub next-digit :
      (s ℓ cell sum power : ℕ) → cell ≡ cell_at ρ cs rule s ℓ → sum % ρ ≡ check_sum (digit ρ s) ℓ cs rule % ρ → power ≡ ρ ^ s
      → cell + missing ρ sum * power ≡ cell_at ρ cs rule (suc s) ℓ
  unfolding number
  next-digit s ℓ cell sum power p q e = λ i. p i + (ρ - q i) % ρ * e i

pub all_digits :
    (shape : Shape) → Taken shape → (rule row : List ℕ) → length rule ≡ shape.width → take shape.width row ≡ rule
    → drop shape.width row
    ≡ tabulate (checks shape) (cell_at shape.radix (rule_columns shape.errors (checks shape) shape.width) rule shape.digits)
    → row ≡ encode shape rule
unfolding encode check_cell check_digit
all_digits shape t rule row sized kept cells =
    let cs : List ℕ = rule_columns shape.errors (checks shape) shape.width in
    let sum : (ℓ s : ℕ) → _ = λ ℓ s. digit_sum-check_sum shape.radix s ℓ cs rule (sized ∙ sym (rules-sized shape t)) in
    sym (take-append-drop shape.width row)
    ∙ ap₂ ◌++◌ kept
    (cells ∙ (λ i. tabulate (checks shape) (λ ℓ. number shape.radix shape.digits (λ s. missing shape.radix (sym (sum ℓ s) i)))))
