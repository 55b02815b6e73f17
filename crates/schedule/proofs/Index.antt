-- The index of a place: what stands before it among the tests is the check rows before its own, there the digits above its own, and of those the
-- columns and factors before it. Each place has the entry that says whether it is the last of its digit, and there is no other entry.
-- Assumes nothing.
use mathlib.Core.Path.{◌≡◌, refl, ap, ◌∙◌}
use mathlib.Core.Bool.{Bool, true, false, cond, ◌&&◌}
use mathlib.Core.List.{List, map}
use Prim.Native.Nat.{ℕ, suc, ◌+◌, ◌-◌, ◌*◌, ◌/◌, ◌%◌, ◌^◌, ◌≤◌, ◌<◌}
use native.Mathlib.Nat.{div_self, div-add-mod', div-lt_iff_lt-mul, mod-lt, mul-le-mul_right, one-le-pow}
use native.Mathlib.Omega.{arith}
use lib.Arith.{comp_comp, lt_of_le-ne}
use lib.Dec.{eqb}
use lib.ListN.{length, length-map}
use borrow.Author.Tests.{eqb-true, eqb-false, eq-eqb, ne_eqb}
use Rattle.parity.specs.Lists.{joined, sum_to}
use Rattle.parity.specs.Shape.{levels, checks}
use Rattle.parity.specs.Matrix.{support}
use Rattle.parity.specs.Questions.{Taken}
use Rattle.parity.specs.declared.Shape.{Shape}
use Rattle.parity.proofs.Taken.{limits}
use Rattle.schedule.specs.Schedule.{counts, Entry, factors, within, ending, of_digit, sweep, of_check, tests}
use Rattle.schedule.specs.Index.{IsPlace, support_size, rank, span, place_index, ends_at, entry_of}
use Rattle.schedule.specs.Claims.{IndexClaim}
use Rattle.schedule.proofs.Sums.{length-joined, sum-steps, sum-times}
use Rattle.schedule.proofs.Factors.{factors-some}
use Rattle.schedule.proofs.Length.{entries, entries-length, digit-length, length-step, check-length}
use Rattle.schedule.proofs.Stands.{Stands, stands-joined, joined-part, stands-over_each, stands-map, stands-at_last}
use Rattle.schedule.proofs.Ranks.{stands-support, support-part, factor_rank, Factor, stands-factor, factor-part, factor-last, span-some, span-step}

-- the last of m times w is the last of the last w
last-last : (m w r c : ℕ) → r < m → c < w → eqb (suc (r * w + c)) (m * w) ≡ eqb (suc r) m && eqb (suc c) w
last-last m w r c h k = go (eqb (suc r) m) (eqb (suc c) w) refl refl
  where
    go : (a b : Bool) → eqb (suc r) m ≡ a → eqb (suc c) w ≡ b → eqb (suc (r * w + c)) (m * w) ≡ a && b
    go true true e f = eq-eqb (suc (r * w + c)) (m * w) (omega (arith, ap (λ x. x * w) (eqb-true (suc r) m e), eqb-true (suc c) w f))
    go true false e f = ne_eqb _ _ (λ (p : suc (r * w + c) ≡ m * w). eqb-false (suc c) w f (omega (arith, ap (λ x. x * w) (eqb-true (suc r) m e))))
    go false b e f =
        let beyond : suc (suc r) ≤ m = lt_of_le-ne h (eqb-false (suc r) m e) in
        ne_eqb _ _ (λ (p : suc (r * w + c) ≡ m * w). omega (arith, mul-le-mul_right w beyond))

-- an entry that ends its digit or not
marked : (z ℓ d j a : ℕ) (b : Bool)
    → cond b (ending z (within ℓ d j a)) (within ℓ d j a)
    ≡ record { check = ℓ; digit = d; column = j; factor = a; kind = counts; flags = b; resets = b && eqb d z }
marked z ℓ d j a true = refl
marked z ℓ d j a false = refl

-- the entries of one ℓ, digit by digit from the highest
abbrev digit_lists : ℕ → Shape → ℕ → ℕ → List Entry
digit_lists z s ℓ i = of_digit z s ℓ (support s ℓ) (s.digits - suc i)

module _ (z : ℕ) (s : Shape) (t : Taken s) where
  -- ---- how many entries stand before

  checks-before : (ℓ : ℕ) → length (joined ℓ (of_check z s)) ≡ (span s z - 1) * sum_to ℓ (support_size s)
  unfolding support_size span
  checks-before ℓ =
      length-joined ℓ (of_check z s) ∙ sum-times ℓ (levels s / s.radix ^ z - 1) (λ i. length (of_check z s i)) (support_size s) (λ i h. check-length z s t i)

  digits-before : (ℓ d : ℕ) → d < s.digits → length (joined (s.digits - suc d) (digit_lists z s ℓ)) ≡ support_size s ℓ * (span s (suc d) - 1)
  unfolding support_size span levels
  digits-before ℓ d h =
      let b : ℕ = s.digits in
      let J : ℕ = length (support s ℓ) in
      let two : 2 ≤ s.radix = (limits s t).radix_low in
      let step : (i : ℕ) → i < b - suc d → length (digit_lists z s ℓ i) + J * span s (b - i) ≡ J * span s (b - suc i) =
      λ i l. let next : suc (b - suc i) ≡ b - i = omega arith in rw next at (length-step z s t ℓ (support s ℓ) (b - suc i) (omega arith)) in
      let first : b - 0 ≡ b = omega arith in
      let last : b - (b - suc d) ≡ suc d = omega arith in
      let low : span s (b - 0) ≡ 1 = ap (span s) first ∙ div_self (one-le-pow b s.radix (omega arith)) in
      let high : span s (b - (b - suc d)) ≡ suc (span s (suc d) - 1) = ap (span s) last ∙ omega (arith, span-some s two d h) in
      omega (
        arith,
        length-joined (b - suc d) (digit_lists z s ℓ),
        sum-steps (b - suc d) (λ i. length (digit_lists z s ℓ i)) (λ i. J * span s (b - i)) step,
        ap (λ x. J * x) low,
        ap (λ x. J * x) high,
      )

  index-parts :
      (ℓ d j a : ℕ) → d < s.digits
      → place_index z s ℓ d j a
      ≡ length (joined ℓ (of_check z s))
      + (length (joined (s.digits - suc d) (digit_lists z s ℓ)) + (rank s ℓ j * length (factors s d) + factor_rank s.radix a))
  unfolding place_index
  index-parts ℓ d j a h =
      let own : span s d - span s (suc d) ≡ length (factors s d) = omega (arith, span-step s (limits s t).radix_low d h) in
      omega (arith, checks-before ℓ, digits-before ℓ d h, ap (λ x. rank s ℓ j * x) own)

  -- ---- each place

  digit-stands :
      (ℓ d j a : ℕ) → IsPlace z s ℓ d j a
      → Stands (of_digit z s ℓ (support s ℓ) d) (rank s ℓ j * length (factors s d) + factor_rank s.radix a) (entry_of z s ℓ d j a)
  unfolding of_digit ends_at support_size
  digit-stands ℓ d j a p =
      let two : 2 ≤ s.radix = (limits s t).radix_low in
      let r : ℕ = rank s ℓ j in
      let w : ℕ = length (factors s d) in
      let k : ℕ = factor_rank s.radix a in
      let factor : Factor s d a = record { low = p.low; high = p.high; undivided = p.undivided } in
      let column : Stands (support s ℓ) r j = stands-support s t ℓ j p.column p.held in
      let own : Stands (factors s d) k a = stands-factor s two d p.digit a factor in
      let plain : Stands (entries s ℓ (support s ℓ) d) (r * w + k) (within ℓ d j a) =
      stands-over_each (λ j. map (within ℓ d j) (factors s d)) w (λ j. length-map (factors s d) (within ℓ d j)) (support s ℓ) r j k (within ℓ d j a)
      column (stands-map (within ℓ d j) (factors s d) k a own) in
      let ends : eqb (suc (r * w + k)) (length (entries s ℓ (support s ℓ) d)) ≡ ends_at s ℓ d j a =
      ap (eqb (suc (r * w + k))) (entries-length s ℓ (support s ℓ) d)
      ∙ last-last (length (support s ℓ)) w r k column.0 own.0
      ∙ ap (λ b. eqb (suc r) (length (support s ℓ)) && b) (factor-last s two d p.digit a factor) in
      let all = stands-at_last (ending z) (entries s ℓ (support s ℓ) d) (r * w + k) (within ℓ d j a) plain in
      (all.0, λ e. all.1 e ∙ ap (λ b. cond b (ending z (within ℓ d j a)) (within ℓ d j a)) ends ∙ marked z ℓ d j a (ends_at s ℓ d j a))

  place-stands : (ℓ d j a : ℕ) → IsPlace z s ℓ d j a → Stands (tests z s) (place_index z s ℓ d j a) (entry_of z s ℓ d j a)
  unfolding tests of_check sweep
  place-stands ℓ d j a p =
      let own : s.digits - suc (s.digits - suc d) ≡ d = comp_comp p.digit in
      rw (index-parts ℓ d j a p.digit)
      (stands-joined (checks s) (of_check z s) ℓ _ (entry_of z s ℓ d j a) p.check
      (stands-joined (s.digits - z) (digit_lists z s ℓ) (s.digits - suc d) _ (entry_of z s ℓ d j a) (omega (arith, p.unskipped, p.digit))
      (rw own (digit-stands ℓ d j a p))))

  -- ---- each index

  index-found : (c : ℕ) → c < length (tests z s) → (ℓ : ℕ) × (d : ℕ) × (j : ℕ) × (a : ℕ) × IsPlace z s ℓ d j a × (place_index z s ℓ d j a ≡ c)
  unfolding tests of_check sweep
  index-found c h =
      let two : 2 ≤ s.radix = (limits s t).radix_low in
      let (ℓ, c₁, check, l₁, e₁) = joined-part (checks s) (of_check z s) c h in
      let (i, c₂, digit, l₂, e₂) = joined-part (s.digits - z) (digit_lists z s ℓ) c₁ l₁ in
      let d : ℕ = s.digits - suc i in
      let within : i < s.digits = omega arith in
      let lt : d < s.digits = omega arith in
      let w : ℕ = length (factors s d) in
      let some : 0 < w = factors-some s two d lt in
      let (j, column, held, e₃) = support-part s t ℓ (c₂ / w) ((div-lt_iff_lt-mul some).1 (rw (digit-length z s ℓ (support s ℓ) d) at l₂)) in
      let (a, factor, e₄) = factor-part s two d lt (c₂ % w) (mod-lt c₂ some) in
      let place : IsPlace z s ℓ d j a =
      record {
        check = check;
        digit = lt;
        unskipped = omega arith;
        column = column;
        held = held;
        low = factor.low;
        high = factor.high;
        undivided = factor.undivided;
      } in
      let digits : length (joined (s.digits - suc d) (digit_lists z s ℓ)) ≡ length (joined i (digit_lists z s ℓ)) =
      ap (λ n. length (joined n (digit_lists z s ℓ))) (comp_comp within) in
      (ℓ, d, j, a, place, omega (arith, index-parts ℓ d j a lt, ap (λ x. x * w) e₃, div-add-mod' c₂ w))

pub index_claim : IndexClaim
index_claim z s t = record { stands = place-stands z s t; found = index-found z s t }
