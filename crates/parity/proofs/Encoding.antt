-- Programming writes a sound row, and of the rows with its rule cells the only one. Assumes nothing.
use mathlib.Core.Path.{◌≡◌, refl, sym, ◌∙◌, ap, ap₂}
use mathlib.Core.Logic.{◌↔◌}
use mathlib.Core.List.{List, ◌++◌}
use Prim.Native.Nat.{ℕ, ◌+◌, ◌-◌, ◌%◌, ◌<◌}
use native.Mathlib.Nat.{mod-lt, add_comm}
use native.Mathlib.Omega.{arith}
use lib.ListN.{length, get_or, take, drop, length-append, take-append-drop}
use lib.Seq.{length-take-le, get_or-take, get_or-append-add, ext_get_or}
use Rattle.parity.specs.Lists.{tabulate}
use Rattle.parity.specs.Shape.{digit, levels, checks, columns}
use Rattle.parity.specs.Matrix.{rule_columns, check_columns, places_from, matrix, support}
use Rattle.parity.specs.Codeword.{Codeword, digit_sum, check_digit, check_cell, encode}
use Rattle.parity.specs.Claims.{Below, EncodingClaim, EncodedClaim, OnlyClaim}
use Rattle.parity.specs.Questions.{Taken}
use Rattle.parity.specs.declared.Shape.{Shape}
use Rattle.parity.proofs.Remainders.{same-eq, same-sym, same-trans, same_add, same-mod, same-cancel, same-below, same-zero, zero_same, complement}
use Rattle.parity.proofs.Digits.{digit-below, digits-equal, number-below, digit-number}
use Rattle.parity.proofs.Sums.{digit_sum-check_sum, check_sum-append}
use Rattle.parity.proofs.Taken.{limits}
use Rattle.parity.proofs.MatrixFacts.{rules-sized}
use Rattle.parity.proofs.CheckCells.{check_columns-sized, check_sum-check_columns}
use Rattle.parity.proofs.ListLaws.{length-tabulate, get_or-tabulate, Each, each_append, each-tabulate}

-- the one number below ρ that brings x to 0 mod ρ
balances : {ρ : ℕ} (x : ℕ) → 0 < ρ → (x + (ρ - x % ρ) % ρ) % ρ ≡ 0
balances {ρ} x pos = zero_same (same-trans (same_add (same-eq {a = x} refl) (same-mod ρ (ρ - x % ρ))) (complement pos x))

balances-only : {ρ : ℕ} (x y : ℕ) → 0 < ρ → y < ρ → (x + y) % ρ ≡ 0 → y ≡ (ρ - x % ρ) % ρ
balances-only {ρ} x y pos lt e =
    same-below lt (mod-lt (ρ - x % ρ) pos)
    (same-cancel pos x
    (same-trans (same-eq (add_comm y x)) (same-trans (same-zero e) (same-sym (same-trans (same-eq (add_comm _ x)) (same-zero (balances x pos)))))))

-- the digits t of the rule cells in J(ℓ), added up
abbrev rule_sum : Shape → List ℕ → ℕ → ℕ → ℕ
rule_sum s rule ℓ t = digit_sum s.radix t (places_from 0 ℓ (rule_columns s.errors (checks s) s.width)) rule

pub encode-sized : (s : Shape) (rule : List ℕ) → length rule ≡ s.width → length (encode s rule) ≡ columns s
unfolding encode columns
encode-sized s rule er = simp (length-append, length-tabulate) (ap (λ x. x + checks s) er)

-- the check cell is a level, and its digits are the check digits
module _ (s : Shape) (pos : 0 < s.radix) where
  check-digit-below : (rule : List ℕ) (ℓ t : ℕ) → check_digit s rule ℓ t < s.radix
  unfolding check_digit
  check-digit-below rule ℓ t = mod-lt (s.radix - rule_sum s rule ℓ t % s.radix) pos

  pub check-cell-below : (rule : List ℕ) (ℓ : ℕ) → check_cell s rule ℓ < levels s
  unfolding check_cell levels
  check-cell-below rule ℓ = number-below s.radix s.digits (check_digit s rule ℓ) (λ t lt. check-digit-below rule ℓ t)

  pub check-cell-digit : (rule : List ℕ) (ℓ t : ℕ) → t < s.digits → digit s.radix t (check_cell s rule ℓ) ≡ check_digit s rule ℓ t
  unfolding check_cell
  check-cell-digit rule ℓ = digit-number s.radix s.digits (check_digit s rule ℓ) pos (λ t lt. check-digit-below rule ℓ t)

-- For a shape with k rule columns.
module _ (s : Shape) (pos : 0 < s.radix) (sized : length (rule_columns s.errors (checks s) s.width) ≡ s.width) where
  -- the sum over a check row: its rule cells, and its own check cell
  check-sum :
      (rule check : List ℕ) → length rule ≡ s.width → length check ≡ checks s → (ℓ t : ℕ) → ℓ < checks s
      → digit_sum s.radix t (support s ℓ) (rule ++ check) ≡ rule_sum s rule ℓ t + digit s.radix t (get_or check ℓ 0)
  unfolding support matrix
  check-sum rule check er ec ℓ t lt =
      let cs : List ℕ = rule_columns s.errors (checks s) s.width in
      let ds : List ℕ = check_columns (checks s) in
      let ev : length rule ≡ length cs = er ∙ sym sized in
      digit_sum-check_sum s.radix t ℓ (cs ++ ds) (rule ++ check) (simp (length-append, check_columns-sized) (cc))
      ∙ check_sum-append (digit s.radix t) ℓ cs ds rule check ev
      ∙ ap₂ ◌+◌ (sym (digit_sum-check_sum s.radix t ℓ cs rule ev)) (check_sum-check_columns (digit s.radix t) ℓ (checks s) check ec lt)

  pub encoded : (rule : List ℕ) → length rule ≡ s.width → Below (levels s) s.width rule → Codeword s (encode s rule)
  unfolding encode check_digit
  encoded rule er below =
      record {
        sized = encode-sized s rule er;
        below = λ j lt. each_append level rule check (rw er below) check_below j (rw (← encode-sized s rule er) at lt);
        balanced = λ ℓ t lt ht.
            ap (λ x. x % s.radix)
            (check-sum rule check er (length-tabulate (checks s) (check_cell s rule)) ℓ t lt ∙ ap (λ x. rule_sum s rule ℓ t + x) (check_digits ℓ t lt ht))
            ∙ balances (rule_sum s rule ℓ t) pos;
      }
    where
      check : List ℕ
      check = tabulate (checks s) (check_cell s rule)

      level : ℕ → Type 0
      level v = v < levels s

      check_below : Each level check
      check_below = each-tabulate level (checks s) (check_cell s rule) (λ i lt. check-cell-below s pos rule i)

      check_digits : (ℓ t : ℕ) → ℓ < checks s → t < s.digits → digit s.radix t (get_or check ℓ 0) ≡ check_digit s rule ℓ t
      check_digits ℓ t lt ht = ap (digit s.radix t) (get_or-tabulate (checks s) (check_cell s rule) ℓ 0 lt) ∙ check-cell-digit s pos rule ℓ t ht

  pub only : (rule check : List ℕ) → length rule ≡ s.width → Codeword s (rule ++ check) → rule ++ check ≡ encode s rule
  unfolding encode columns levels check_digit
  only rule check er c =
      ap (λ x. rule ++ x)
      (ext_get_or 0 check (tabulate (checks s) (check_cell s rule)) (ec ∙ sym (length-tabulate (checks s) (check_cell s rule)))
      (λ ℓ h. cell ℓ (omega (arith, ec)) ∙ sym (get_or-tabulate (checks s) (check_cell s rule) ℓ 0 (omega (arith, ec)))))
    where
      ec : length check ≡ checks s
      ec = omega (arith, length-append rule check)

      cell : (ℓ : ℕ) → ℓ < checks s → get_or check ℓ 0 ≡ check_cell s rule ℓ
      cell ℓ lt =
          digits-equal s.radix s.digits pos
          (rw (← get_or-append-add rule check ℓ 0) (c.below (length rule + ℓ) (omega arith))) (check-cell-below s pos rule ℓ)
          (λ t ht. balances-only (rule_sum s rule ℓ t) (digit s.radix t (get_or check ℓ 0)) pos (digit-below s.radix t (get_or check ℓ 0) pos)
          (ap (λ x. x % s.radix) (sym (check-sum rule check er ec ℓ t lt)) ∙ c.balanced ℓ t lt ht)
          ∙ sym (check-cell-digit s pos rule ℓ t ht))

  pub encoding : (row : List ℕ) → length row ≡ columns s → Codeword s row ↔ ((row ≡ encode s (take s.width row)) × Below (levels s) s.width row)
  unfolding columns
  encoding row e = (
    λ c. (sym whole ∙ only (take s.width row) (drop s.width row) cut (rw whole c), λ j lt. c.below j (omega arith)),
    λ h. rw h.0 (encoded (take s.width row) cut (λ j lt. rw get_or-take (h.1 j lt))),
  )
    where
      whole : take s.width row ++ drop s.width row ≡ row
      whole = take-append-drop s.width row

      cut : length (take s.width row) ≡ s.width
      cut = length-take-le s.width row (omega arith)

radix-pos : (s : Shape) → Taken s → 0 < s.radix
radix-pos s t = omega (arith, (limits s t).radix_low)

pub encoded_claim : EncodedClaim
encoded_claim s t = encoded s (radix-pos s t) (rules-sized s t)

pub only_claim : OnlyClaim
only_claim s t = only s (radix-pos s t) (rules-sized s t)

pub encoding_claim : EncodingClaim
encoding_claim s t = encoding s (radix-pos s t) (rules-sized s t)
