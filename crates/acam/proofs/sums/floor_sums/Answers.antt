-- `acam::sums::floor_sums` meets its contract: the sums are those of the first j columns and cells. Assumes nothing.
use mathlib.Core.Path.{◌≡◌, refl, sym, ◌∙◌, ap, ap₂}
use mathlib.Core.List.{List}
use Prim.Native.Nat.{ℕ, suc, ◌+◌, ◌*◌, ◌/◌, ◌≤◌, ◌<◌}
use native.Mathlib.Nat.{div-le_self}
use native.Mathlib.Numerals.{add-one}
use native.Mathlib.Omega.{arith}
use lib.ListN.{length, get_or, take, length-take}
use lib.Seq.{get_or-take}
use Rattle.parity.specs.Lists.{tabulate}
use Rattle.parity.specs.Matrix.{bit}
use Rattle.parity.proofs.ListLaws.{get_or-tabulate, tabulate-same}
use Rattle.parity.proofs.Sums.{check_sum-next, check_sum-high}
use Rattle.acam.proofs.sums.floor_sums.Invariants.{sum_of, sums_of}
use Rattle.acam.proofs.sums.floor_sums.Goals as goal

-- sums with a value added
abbrev grown : List ℕ → ℕ → ℕ → ℕ → ℕ
grown sums column v l = get_or sums l 0 + bit l column * v

module _ (power : ℕ) (columns cells : List ℕ) (j : ℕ) where
  sums-high : ((i : ℕ) → get_or cells i 0 < 256) → (l : ℕ) → l < 8 → get_or (sums_of power columns cells j) l 0 ≤ 255 * j
  sums-high bytes l h =
      rw (get_or-tabulate 8 (sum_of power columns cells j) l 0 h)
      (omega (
        arith,
        check_sum-high (λ v. v / power) 255 l (take j columns) (take j cells)
            (λ i lt. rw (get_or-take j cells i 0 (omega (arith, length-take j cells)))
            (omega (arith, div-le_self (get_or cells i 0) power, bytes i))),
        length-take j cells,
      ))

  sums_next :
      j < length columns → j < length cells
      → tabulate 8 (grown (sums_of power columns cells j) (get_or columns j 0) (get_or cells j 0 / power)) ≡ sums_of power columns cells (j + 1)
  sums_next hc hv =
      tabulate-same 8 (grown (sums_of power columns cells j) (get_or columns j 0) (get_or cells j 0 / power)) (sum_of power columns cells (suc j))
      (λ l h. ap (λ x. x + bit l (get_or columns j 0) * (get_or cells j 0 / power)) (get_or-tabulate 8 (sum_of power columns cells j) l 0 h)
      ∙ check_sum-next (λ v. v / power) l j columns cells hc hv)
      ∙ ap (sums_of power columns cells) (sym (add-one j))

pub add_value-requires : goal.add_value-requires
add_value-requires c =
    let args = c.args in
    let loop = c.loop-j in
    let cell = get_or args.cells.now loop.j 0 in
    let floor : c.quotient-floor.result ≡ cell / args.power
    = c.quotient-floor.ensures args.power (omega arith) (omega arith) refl ∙ ap (λ v. v / args.power) c.from.ensures in
    let bytes : (i : ℕ) → get_or args.cells.now i 0 < 256 = λ i. (c.type_inv.cells i).fits in
    record {
      sized = ap length loop.invariant;
      room = λ l h. omega (
        arith,
        bytes loop.j,
        div-le_self cell args.power,
        ap (λ xs. get_or xs l 0) loop.invariant,
        sums-high args.power args.matrix.now args.cells.now loop.j bytes l h,
      );
    }

pub loop-j-preserved : goal.loop-j-preserved
loop-j-preserved c =
    let args = c.args in
    let loop = c.loop-j in
    let column = get_or args.matrix.now loop.j 0 in
    let floor : c.quotient-floor.result ≡ get_or args.cells.now loop.j 0 / args.power
    = c.quotient-floor.ensures args.power (omega arith) (omega arith) refl ∙ ap (λ v. v / args.power) c.from.ensures in
    c.add_value.ensures
    ∙ ap₂ (λ xs v. tabulate 8 (grown xs column v)) loop.invariant floor
    ∙ sums_next args.power args.matrix.now args.cells.now loop.j (omega arith) (omega arith)
