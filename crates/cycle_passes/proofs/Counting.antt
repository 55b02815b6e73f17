-- A row's match byte added to its counter: the step of the loops that count. Assumes nothing.
use mathlib.Core.Path.{◌≡◌}
use mathlib.Core.List.{List}
use Prim.Native.Nat.{ℕ, ◌+◌, ◌%◌, ◌<◌}
use native.Mathlib.Omega.{arith}
use lib.ListN.{length, get_or, set}
use Rattle.parity.proofs.ListLaws.{get_or-tabulate}
use Rattle.cycle_passes.specs.Passes.{column_match, column_matches, counted_byte}
use Rattle.cycle_passes.proofs.Pass.{Pass, pass-here, pass-next}

pub counted-next :
    (ρ x : ℕ) (lines column : List ℕ) {i byte sum : ℕ} {old now next : List ℕ} → Pass (counted_byte ρ old (column_matches x lines column)) old i now
    → next ≡ set now i sum → sum ≡ (get_or now i 0 + byte) % ρ → byte ≡ column_match x lines column i → i < length column → i < length old
    → Pass (counted_byte ρ old (column_matches x lines column)) old (i + 1) next
counted-next ρ x lines column {i} p stored added said inside h =
    let here = pass-here p in
    let there = get_or-tabulate (length column) (column_match x lines column) i 0 inside in
    pass-next p stored (grind arith) h
