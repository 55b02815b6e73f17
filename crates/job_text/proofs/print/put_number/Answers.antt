-- `job_text::print::put_number` meets its contract: the digits stand from the last on, and the rest has those in front. Assumes nothing.
use mathlib.Core.Path.{◌≡◌, sym, ◌∙◌, ap}
use mathlib.Core.List.{List, [], ◌∷◌, ◌++◌, append-nil}
use Prim.Native.Nat.{ℕ, suc, ◌+◌, ◌-◌, ◌/◌, ◌%◌, ◌<◌}
use native.Mathlib.Omega.{arith}
use lib.ListN.{length, set}
use lib.Seq.{append_snoc}
use Rattle.job_text.specs.Text.{decimal}
use Rattle.job_text.specs.Written.{written}
use Rattle.job_text.proofs.Written.{written_none, written-front}
use Rattle.job_text.proofs.Decimal.{last_digits, decimal-digits, decimal-short}
use Rattle.job_text.proofs.print.put_number.Invariants.{Standing}
use Rattle.job_text.proofs.print.put_number.Goals as goal

-- all digits are to come
start : (at number count : ℕ) (out : List ℕ) → count ≡ length (decimal number) → Standing at number out out number count
start at number count out e =
    ([], append-nil (last_digits count number) ∙ ap (λ k. last_digits k number) e ∙ decimal-digits number, sym (written_none (at + count) out))

-- one digit more
next :
    (at number : ℕ) (out₀ out : List ℕ) (rest k i : ℕ) → i ≡ suc k → at + k < length out₀ → Standing at number out₀ out rest i
    → Standing at number out₀ (set out (at + k) (48 + rest % 10)) (rest / 10) k
next at number out₀ out rest k i one h (tail, e, w) =
    let digit = 48 + rest % 10 in (
      digit ∷ tail,
      sym (append_snoc (last_digits k (rest / 10)) digit tail) ∙ ap (λ k. last_digits k rest ++ tail) (sym one) ∙ e,
      ap (λ o. set o (at + k) digit) (w ∙ ap (λ n. written n tail out₀) (omega arith)) ∙ written-front (at + k) digit tail out₀ h,
    )

pub loop-i-init : goal.loop-i-init
loop-i-init c = start c.args.at c.args.number c.digit_count-count.result c.args.out.now c.digit_count-count.ensures

pub loop-i-preserved : goal.loop-i-preserved
loop-i-preserved c =
    let args = c.args in
    let turn = c.loop-i in
    let short = decimal-short args.number in
    next args.at args.number args.out.now turn.out turn.rest (turn.i - 1) turn.i (omega arith) (omega arith) turn.invariant
