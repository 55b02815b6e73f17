-- `acam::matrix::fill_matrix` meets its contract: the rule columns, and then the check columns. Assumes nothing.
use mathlib.Core.Path.{◌≡◌, sym, ◌∙◌, ap}
use mathlib.Core.List.{List, ◌++◌}
use Prim.Native.Nat.{ℕ, ◌+◌, ◌-◌, ◌≤◌}
use native.Mathlib.Omega.{arith}
use lib.ListN.{length, take, drop, length-append, length-drop}
use borrow.Rule.Slice.PartMut.{mid_of, put_mid}
use Rattle.parity.specs.Shape.{checks, columns}
use Rattle.parity.specs.Matrix.{rule_columns, check_columns, matrix}
use Rattle.parity.specs.Questions.{Taken}
use Rattle.parity.specs.declared.Shape.{Shape}
use Rattle.parity.proofs.Redundancy.{redundancy_claim}
use Rattle.acam.proofs.MatrixArray.{wide, rules-ask, are-rules, rules-long, rules-held}
use Rattle.acam.proofs.Tail.{tail-is, tail-back}
use Rattle.acam.proofs.matrix.fill_matrix.Goals as goal

-- a part that has room for the rule columns, and for r more
module _ (s : Shape) (t : Taken s) (r : ℕ) (enough : r ≡ checks s) (part : List ℕ) (all : length part ≡ columns s) where
  long : s.width + r ≡ length part
  long = wide s t r enough ∙ sym all

  -- once the rule columns are there
  module _ (rules : List ℕ) (filled : rules ≡ rule_columns s.errors r (length (take s.width part))) where
    room : s.width ≤ length part
    room = omega (arith, long)

    counted : length rules ≡ s.width
    counted = rules-long s t r enough part room rules filled

    -- the part as it is then, and what is left of it for the check columns
    abbrev now : List ℕ
    now = rules ++ drop s.width part

    sized : length now ≡ s.width + r
    sized = omega (arith, length-append rules (drop s.width part), length-drop s.width part, counted, long)

    rest : length (mid_of s.width (length now - s.width) now) ≡ checks s
    rest = omega (arith, ap length (tail-is s.width now), length-drop s.width now, sized, enough)

    few : length (mid_of s.width (length now - s.width) now) ≤ 8
    few = omega (arith, rest, (redundancy_claim s t).high)

    -- the check columns after them
    whole :
        (last : List ℕ) → last ≡ check_columns (length (mid_of s.width (length now - s.width) now))
        → put_mid s.width (length now - s.width) now last ≡ matrix s
    unfolding matrix
    whole last made =
        let second : last ≡ check_columns (checks s) = made ∙ ap check_columns rest in
        let first = rules-held s t r enough part room rules filled ∙ are-rules s t r enough part room rules filled in
        tail-back s.width now last (omega (arith, sized)) ∙ (λ i. first i ++ second i)

pub fill_rules-requires : goal.fill_rules-requires
fill_rules-requires c =
    let room = long c.args.shape c.requires.taken c.args.checks c.requires.checks c.args.part.now c.requires.columns in
    rules-ask c.args.shape c.requires.taken c.args.checks c.requires.checks c.args.part.now (omega (arith, room))

pub fill_checks-requires : goal.fill_checks-requires
fill_checks-requires c =
    few c.args.shape c.requires.taken c.args.checks c.requires.checks c.args.part.now c.requires.columns c.fill_rules.new.part c.fill_rules.ensures

pub returns : goal.returns
returns c =
    whole c.args.shape c.requires.taken c.args.checks c.requires.checks c.args.part.now c.requires.columns c.fill_rules.new.part c.fill_rules.ensures
    c.fill_checks.new.part c.fill_checks.ensures
