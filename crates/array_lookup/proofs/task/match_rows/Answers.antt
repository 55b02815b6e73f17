-- `array_lookup::task::match_rows` meets its contract: the first i places hold the match bytes of the first i rows, and the count is their sum.
-- Assumes nothing.
use mathlib.Core.Path.{◌≡◌, ◌∙◌, ap, ap₂}
use mathlib.Core.List.{[], ◌∷◌}
use Prim.Native.Nat.{ℕ, ◌+◌, ◌-◌, ◌*◌}
use native.Mathlib.Numerals.{add-one}
use native.Mathlib.Omega.{arith}
use lib.ListN.{set}
use Rattle.parity.specs.Lists.{tabulate}
use Rattle.parity.proofs.ListLaws.{sum-append}
use Rattle.parity.proofs.Filled.{filled_next}
use Rattle.array_lookup.specs.Rows.{byte_of}
use Rattle.array_lookup.proofs.RowBytes.{byte_high, part-byte}
use Rattle.array_lookup.proofs.task.match_rows.Invariants.{sum}
use Rattle.array_lookup.proofs.task.match_rows.Goals as goal

-- what the comparison of the lent row gives is row i's match byte
pub loop-i-preserved : goal.loop-i-preserved
loop-i-preserved c =
    let args = c.args in
    let loop = c.loop-i in
    let byte : ℕ → ℕ = byte_of args.below args.inputs.now args.cells.now args.lines.now args.columns in
    let start = loop.i * args.columns in
    let same : c.line_match-byte.result ≡ byte loop.i =
    c.line_match-byte.ensures
    ∙ part-byte args.below args.inputs.now args.cells.now args.lines.now args.columns loop.i (start + args.columns - start) (omega arith) in
    let high = byte_high args.below args.inputs.now args.cells.now args.lines.now args.columns loop.i in (
      omega (arith, high, same),
      ap₂ (λ xs x. set xs loop.i x) loop.invariant.1 same ∙ filled_next byte args.matches.now loop.i (omega arith),
      omega (arith, same, sum-append (λ x. x) (tabulate loop.i byte) (byte loop.i ∷ []), ap (λ n. sum (tabulate n byte)) (add-one loop.i)),
    )
