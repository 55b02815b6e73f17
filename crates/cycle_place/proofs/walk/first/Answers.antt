-- `cycle_place::walk::first` meets its contract: the first test is that of check row 0 and the highest digit in the first column of J(0), if that
-- digit is not skipped. Assumes nothing.
use mathlib.Core.Path.{◌≡◌, sym, ◌∙◌, ap}
use mathlib.Core.List.{List}
use Prim.Native.Nat.{ℕ, ◌-◌, ◌<◌}
use Rattle.std.specs.Prelude.{Some}
use Rattle.parity.specs.Matrix.{matrix}
use Rattle.parity.specs.Questions.{Taken}
use Rattle.parity.specs.declared.Shape.{Shape}
use Rattle.parity.proofs.Taken.{limits}
use Rattle.cycle_place.specs.Places.{place_at, next_at}
use Rattle.cycle_place.proofs.CheckRows.{held_from}
use Rattle.cycle_place.proofs.Places.{place-next}
use Rattle.cycle_place.proofs.Following.{place-first}
use Rattle.cycle_place.proofs.walk.first.Goals as goal

first-as :
    (z : ℕ) (s : Shape) → Taken s → z < s.digits → {j : ℕ} {cs : List ℕ} → j ≡ held_from cs 0 0 → cs ≡ matrix s
    → next_at z s 2 ≡ Some (place_at 0 (s.digits - 1) j 1)
first-as z s t h found all =
    place-next z s t 2 _ (place-first z s t h)
    ∙ ap (λ j. Some (place_at 0 (s.digits - 1) j 1)) (sym (found ∙ ap (λ cs. held_from cs 0 0) all))

pub overflow_sub-result : goal.overflow_sub-result
overflow_sub-result c = (limits c.args.shape c.requires.taken).digits_low

pub returns : goal.returns
returns c =
    λ z h. first-as z c.args.shape c.requires.taken h c.next_held.ensures c.requires.matrix
