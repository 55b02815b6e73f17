-- `acam::encode::write_checks` meets its contract: the rule columns are made in an array, and `write_digits` is lent that part of it.
-- Assumes nothing.
use mathlib.Core.Path.{◌≡◌, sym, ◌∙◌, ap}
use mathlib.Core.List.{List, ◌++◌}
use Prim.Native.Nat.{ℕ, ◌≤◌}
use native.Mathlib.Omega.{arith}
use lib.ListN.{length, take, drop, length-append}
use Rattle.parity.specs.Shape.{checks}
use Rattle.parity.specs.Matrix.{rule_columns}
use Rattle.parity.specs.Questions.{Taken}
use Rattle.parity.specs.declared.Shape.{Shape}
use Rattle.acam.proofs.MatrixArray.{zeros, fits, front, rules-ask, are-rules, rules-long, rules-held}
use Rattle.acam.proofs.encode.write_checks.Goals as goal

-- k columns fit into the array
room : (s : Shape) → Taken s → (r : ℕ) → r ≡ checks s → s.width ≤ 255
room s t r counted = omega (arith, fits s t r counted)

-- the columns that are made in it
module _ (s : Shape) (t : Taken s) (r : ℕ) (counted : r ≡ checks s) (made : List ℕ)
    (filled : made ≡ rule_columns s.errors r (length (take s.width zeros))) where
  sized : length made ≡ s.width
  sized = rules-long s t r counted zeros (room s t r counted) made filled

  part : take s.width (made ++ drop s.width zeros) ≡ made
  part = rules-held s t r counted zeros (room s t r counted) made filled

pub slice_bounds-rules-end : goal.slice_bounds-rules-end
slice_bounds-rules-end c = room c.args.shape c.requires.taken c.args.checks c.requires.checks

pub slice_bounds-fill_rules-end : goal.slice_bounds-fill_rules-end
slice_bounds-fill_rules-end c =
    let s = c.args.shape in
    let r = c.args.checks in
    sym (front s c.requires.taken r c.requires.checks zeros (room s c.requires.taken r c.requires.checks))

pub fill_rules-requires : goal.fill_rules-requires
fill_rules-requires c =
    let s = c.args.shape in
    let r = c.args.checks in
    rules-ask s c.requires.taken r c.requires.checks zeros (room s c.requires.taken r c.requires.checks)

pub slice_bounds-rules-end-2 : goal.slice_bounds-rules-end-2
slice_bounds-rules-end-2 c =
    let s = c.args.shape in
    let made = c.fill_rules.new.part in
    let long = sized s c.requires.taken c.args.checks c.requires.checks made c.fill_rules.ensures in
    omega (arith, length-append made (drop s.width zeros), long)

pub slice_bounds-write_digits-end : goal.slice_bounds-write_digits-end
slice_bounds-write_digits-end c =
    let s = c.args.shape in
    let made = c.fill_rules.new.part in
    let held = part s c.requires.taken c.args.checks c.requires.checks made c.fill_rules.ensures in
    let long = sized s c.requires.taken c.args.checks c.requires.checks made c.fill_rules.ensures in
    sym (ap length held ∙ long)

pub write_digits-requires : goal.write_digits-requires
write_digits-requires c =
    let s = c.args.shape in
    let made = c.fill_rules.new.part in
    let held = part s c.requires.taken c.args.checks c.requires.checks made c.fill_rules.ensures in
    let filled =
    are-rules s c.requires.taken c.args.checks c.requires.checks zeros (room s c.requires.taken c.args.checks c.requires.checks) made c.fill_rules.ensures in
    record { taken = c.requires.taken; cells = c.requires.columns; rules = held ∙ filled }
