-- `acam::encode::write_digits` meets its contract: the rule cells stay, and the check cells have their first s digits. Assumes nothing.
use mathlib.Core.Path.{◌≡◌, refl, sym, ◌∙◌, ap, ap₂}
use mathlib.Core.List.{List}
use Prim.Native.Nat.{ℕ, suc, ◌+◌, ◌-◌, ◌*◌, ◌/◌, ◌^◌, ◌≤◌, ◌<◌}
use native.Mathlib.Nat.{pow-zero, le_refl}
use native.Mathlib.Numerals.{add-one}
use native.Mathlib.Omega.{arith}
use lib.ListN.{length, get_or, take, drop, length-take}
use lib.Seq.{take_all, length-take-le}
use borrow.Rule.Slice.PartMut.{mid_of, put_mid, mid_len, take_put}
use Rattle.parity.specs.Lists.{tabulate}
use Rattle.parity.specs.Shape.{checks, columns}
use Rattle.parity.specs.Questions.{Taken}
use Rattle.parity.specs.declared.Shape.{Shape}
use Rattle.parity.proofs.ListLaws.{length-tabulate, get_or-tabulate, tabulate-same}
use Rattle.parity.proofs.Sums.{check_sum}
use Rattle.parity.proofs.Taken.{limits}
use Rattle.parity.proofs.Redundancy.{redundancy_claim}
use Rattle.parity.proofs.MatrixFacts.{rules-sized}
use Rattle.parity.proofs.Sizes.{columns-high}
use Rattle.acam.proofs.Tail.{tail-is, tail-put}
use Rattle.acam.proofs.DigitLoop.{power-high, power-next, power-fits, sums-ask, sum-at}
use Rattle.acam.specs.Digits.{missing}
use Rattle.acam.proofs.DigitCells.{cell_at, no-digits, cell_below, next-digit, all_digits}
use Rattle.acam.proofs.encode.write_digits.Goals as goal

-- what a turn of the loop has: the check cells with their first s digits, and the sums of the levels over ρ^s
record Turn (ρ k : ℕ) (columns row₀ : List ℕ) (s power : ℕ) (row sums : List ℕ) : Type 0 where
  powered : power ≡ ρ ^ s
  fits : k ≤ length row
  few : length row₀ - k ≤ 8
  kept : take k row ≡ take k row₀
  cells : drop k row ≡ tabulate (length row₀ - k) (cell_at ρ (take k columns) (take k row₀) s)
  summed : sums ≡ tabulate 8 (λ ℓ. check_sum (λ v. v / power) ℓ (take (length (take k row)) columns) (take k row))

module _ {ρ k : ℕ} {columns row₀ : List ℕ} {s power : ℕ} {row sums : List ℕ} (t : Turn ρ k columns row₀ s power row sums) where
  -- the part of the row that is lent
  lent : List ℕ
  lent = mid_of k (length row - k) row

  lent-cells : lent ≡ tabulate (length row₀ - k) (cell_at ρ (take k columns) (take k row₀) s)
  unfolding lent
  lent-cells = tail-is k row ∙ t.cells

  lent_length : length lent ≡ length row₀ - k
  lent_length = ap length lent-cells ∙ length-tabulate (length row₀ - k) _

  -- the digit that is added to check cell ℓ is its digit s
  added :
      (ℓ : ℕ) → ℓ < length row₀ - k
      → get_or lent ℓ 0 + missing ρ (get_or sums ℓ 0) * power ≡ cell_at ρ (take k columns) (take k row₀) (suc s) ℓ
  added ℓ h =
      next-digit ρ (take k columns) (take k row₀) s ℓ _ _ power
      (ap (λ xs. get_or xs ℓ 0) lent-cells ∙ get_or-tabulate (length row₀ - k) (cell_at ρ (take k columns) (take k row₀) s) ℓ 0 h)
      (sum-at ρ s power (take k columns) (take k row₀) sums t.powered
      (t.summed
      ∙ ap₂ (λ n vs. tabulate 8 (λ ℓ. check_sum (λ v. v / power) ℓ (take n columns) vs)) (length-take-le k row t.fits) t.kept)
      ℓ (omega (arith, t.few)))
      t.powered

  turned :
      (last : List ℕ) → last ≡ tabulate (length lent) (λ ℓ. get_or lent ℓ 0 + missing ρ (get_or sums ℓ 0) * power)
      → drop k (put_mid k (length row - k) row last) ≡ tabulate (length row₀ - k) (cell_at ρ (take k columns) (take k row₀) (s + 1))
  turned last e =
      tail-put k row last t.fits ∙ e
      ∙ ap (λ n. tabulate n (λ ℓ. get_or lent ℓ 0 + missing ρ (get_or sums ℓ 0) * power)) lent_length
      ∙ tabulate-same (length row₀ - k) _ (cell_at ρ (take k columns) (take k row₀) (suc s)) added
      ∙ ap (λ n. tabulate (length row₀ - k) (cell_at ρ (take k columns) (take k row₀) n)) (sym (add-one s))

-- the row where the loop begins: its last places are filled
abbrev first : ℕ → List ℕ → List ℕ → List ℕ
first k row zeros = put_mid k (length row - k) row zeros

-- what a turn has, of a shape that is taken
module _ (shape : Shape) (taken : Taken shape) (cs row₀ : List ℕ) (sized : length row₀ ≡ columns shape) where
  turn :
      (s power : ℕ) (row sums : List ℕ) → power ≡ shape.radix ^ s → length row ≡ length row₀ → take shape.width row ≡ take shape.width row₀
      → drop shape.width row ≡ tabulate (length row₀ - shape.width) (cell_at shape.radix (take shape.width cs) (take shape.width row₀) s)
      → sums ≡ tabulate 8 (λ ℓ. check_sum (λ v. v / power) ℓ (take (length (take shape.width row)) cs) (take shape.width row))
      → Turn shape.radix shape.width cs row₀ s power row sums
  unfolding columns
  turn s power row sums powered long kept cells summed =
      let few : checks shape ≤ 8 = (redundancy_claim shape taken).high in
      record { powered = powered; fits = omega arith; few = omega arith; kept = kept; cells = cells; summed = summed }

pub loop-init : goal.loop-init
unfolding columns
loop-init c =
    let args = c.args in
    let k = args.shape.width in
    let row = args.row.now in
    let start = first k row c.fill.new.self in
    let many : length (mid_of k (length row - k) row) ≡ length start - k = omega (arith, mid_len k (length row) row (le_refl (length row))) in (
      sym (pow-zero args.shape.radix),
      refl,
      refl,
      tail-put k row c.fill.new.self (omega arith) ∙ c.fill.ensures.after (λ y e. e)
          ∙ no-digits args.shape.radix (take k args.rules.now) (take k start) (length (mid_of k (length row - k) row))
          ∙ ap (λ r. tabulate r (cell_at args.shape.radix (take k args.rules.now) (take k start) 0)) many,
    )

pub floor_sums-sums-requires : goal.floor_sums-sums-requires
unfolding columns
floor_sums-sums-requires c =
    let shape = c.args.shape in
    let taken = c.requires.taken in
    let loop = c.loop in
    let each : length c.args.rules.now ≡ shape.width = ap length c.requires.rules ∙ rules-sized shape taken in
    sums-ask shape taken loop.counter loop.power loop.invariant.0 (omega arith) _ _ (omega (arith, length-take shape.width loop.row))
    (omega (arith, columns-high shape taken))

pub add_check_digits-requires : goal.add_check_digits-requires
unfolding lent
add_check_digits-requires c =
    let shape = c.args.shape in
    let taken = c.requires.taken in
    let loop = c.loop in
    let start = first shape.width c.args.row.now c.fill.new.self in
    let t = turn shape taken c.args.rules.now start (omega arith) loop.counter loop.power loop.row c.floor_sums-sums.result
    loop.invariant.0 (omega arith) loop.invariant.2 loop.invariant.3 c.floor_sums-sums.ensures in
    let pos : 0 < shape.radix = omega (arith, (limits shape taken).radix_low) in
    record {
      radix = record { low = pos; high = omega (arith, limits shape taken) };
      few = omega (arith, lent_length t, t.few);
      room = λ l h. omega (
        arith,
        added t l (omega (arith, lent_length t)),
        cell_below shape.radix (take shape.width c.args.rules.now) (take shape.width start) (suc loop.counter) l pos,
        power-high shape taken loop.counter (omega arith),
      );
    }

pub overflow_mul-power : goal.overflow_mul-power
overflow_mul-power c =
    let loop = c.loop in
    omega (arith, power-fits c.args.shape c.requires.taken loop.counter loop.power loop.invariant.0 (omega arith))

pub loop-preserved : goal.loop-preserved
unfolding lent
loop-preserved c =
    let shape = c.args.shape in
    let taken = c.requires.taken in
    let loop = c.loop in
    let k = shape.width in
    let start = first k c.args.row.now c.fill.new.self in
    let last = c.add_check_digits.new.cells in
    let t = turn shape taken c.args.rules.now start (omega arith) loop.counter loop.power loop.row c.floor_sums-sums.result
    loop.invariant.0 (omega arith) loop.invariant.2 loop.invariant.3 c.floor_sums-sums.ensures in (
      power-next shape taken loop.counter loop.power loop.invariant.0,
      omega arith,
      take_put k (length loop.row - k) loop.row last t.fits ∙ loop.invariant.2,
      turned t last c.add_check_digits.ensures,
    )

pub returns : goal.returns
unfolding columns
returns c =
    let shape = c.args.shape in
    let taken = c.requires.taken in
    let loop = c.loop in
    let k = shape.width in
    let row = c.args.row.now in
    let start = first k row c.fill.new.self in
    let each : length c.args.rules.now ≡ k = ap length c.requires.rules ∙ rules-sized shape taken in
    let rule : take k start ≡ take k row = take_put k (length row - k) row c.fill.new.self (omega arith) in
    let cs = take_all k c.args.rules.now (omega arith) ∙ c.requires.rules in
    let r : length start - k ≡ checks shape = omega arith in
    let all : loop.counter ≡ shape.digits = omega arith in
    all_digits shape taken (take k row) loop.row (length-take-le k row (omega arith)) (loop.invariant.2 ∙ rule)
    (loop.invariant.3 ∙ (λ i. tabulate (r i) (cell_at shape.radix (cs i) (rule i) (all i))))
