-- M1 to M8 of the document hold. Assumes nothing.
use mathlib.Core.Path.{◌≡◌, refl, sym, ◌∙◌}
use mathlib.Core.Bool.{Bool, true, not, ◌&&◌, and-eq-true_iff, true≢false}
use mathlib.Core.List.{List, [], ◌∷◌, ◌++◌}
use lib.Dec.{eqb, ltb}
use borrow.Author.Tests.{eqb-true, ltb-true, not-true}
use Rattle.parity.specs.Lists.{every, differences}
use Rattle.parity.specs.Shape.{digit, levels, largest, limit, redundancy, checks, columns}
use Rattle.parity.specs.Matrix.{weight, of_weight, column_order, eligible, rule_columns, check_columns, matrix, support, matrix_ones, lookups}
use Rattle.parity.specs.Codeword.{is_codeword, number, check_digit, check_cell, encode}
use Rattle.parity.specs.Questions.{shape_refusal}
use Rattle.parity.specs.Marked.{Marked, takes, sound, unsound, differ, ones_are, lookups_are, checks_are, refused_by, Holds, AllHold, marked_rows, MarkedClaim}
use Rattle.parity.proofs.ListLaws.{differences-zero}
use Rattle.parity.proofs.CodewordTest.{codeword-test, codeword-passes}

-- what a row of the table says, as a test
holds : Marked → Bool
holds (takes s rule check) = eqb (differences (encode s rule) (rule ++ check)) 0
holds (sound s row) = is_codeword s row
holds (unsound s row) = not (is_codeword s row)
holds (differ s x y cells) = eqb (differences x y) cells && ltb s.errors cells
holds (ones_are s w) = eqb (matrix_ones s) w
holds (lookups_are s c) = eqb (lookups 0 s) c
holds (checks_are s r) = eqb (checks s) r
holds (refused_by s n) = eqb (shape_refusal s) n

holds-true : (m : Marked) → holds m ≡ true → Holds m
unfolding holds
holds-true (takes s rule check) e = differences-zero _ _ (eqb-true _ _ e)
holds-true (sound s row) e = codeword-test s row e
holds-true (unsound s row) e = λ c. true≢false (sym (codeword-passes s row c) ∙ not-true _ e)
holds-true (differ s x y cells) e =
    let both = (and-eq-true_iff (eqb (differences x y) cells) (ltb s.errors cells)).0 e in
    (eqb-true _ _ both.0, ltb-true _ _ both.1)
holds-true (ones_are s w) e = eqb-true _ _ e
holds-true (lookups_are s c) e = eqb-true _ _ e
holds-true (checks_are s r) e = eqb-true _ _ e
holds-true (refused_by s n) e = eqb-true _ _ e

all_hold : (ms : List Marked) → every holds ms ≡ true → AllHold ms
all_hold [] e = tt
all_hold (m ∷ ms) e =
    let both = (and-eq-true_iff (holds m) (every holds ms)).0 e in
    (holds-true m both.0, all_hold ms both.1)

rows-hold : every holds marked_rows ≡ true
unfolding
    holds marked_rows digit levels largest limit redundancy checks columns weight of_weight column_order eligible rule_columns check_columns matrix support
    matrix_ones lookups is_codeword number check_digit check_cell encode shape_refusal
rows-hold = refl

pub marked : MarkedClaim
marked = all_hold marked_rows rows-hold
