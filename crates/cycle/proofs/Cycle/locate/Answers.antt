-- `cycle::Cycle::locate` meets its contract: a record that is not open, or has more steps than any cycle, is one that question 9 refuses, and of
-- others it asks whether the place is that of the count. Assumes nothing.
use mathlib.Core.Path.{◌≡◌, refl, sym, ◌∙◌, ap}
use mathlib.Core.Bool.{Bool, true, false, cond, ◌&&◌, false≢true}
use native.Mathlib.Omega.{arith}
use borrow.Author.Tests.{leb-false}
use Rattle.parity.specs.Claims.{most_steps}
use Rattle.parity.specs.declared.Shape.{Shape}
use Rattle.parity.proofs.Longest.{lookups-high}
use Rattle.cycle_place.specs.Places.{is_place_of}
use Rattle.cycle_place.specs.Walk.{told_at}
use Rattle.cycle_place.specs.declared.walk.Located.TheVariants.{Elsewhere}
use Rattle.cycle.specs.Record.{is_open, is_next}
use Rattle.cycle.specs.declared.Cycle.{Cycle}
use Rattle.cycle.proofs.CycleRecord.{next-record, next-phase}
use Rattle.cycle.proofs.Cycle.locate.Goals as goal

-- where question 9 says no
elsewhere :
    (s : Shape) (cycle : Cycle) → (is_next s cycle ≡ true → ⊥)
    → Elsewhere ≡ cond (is_next s cycle) (told_at cycle.skip s cycle.count cycle.place) Elsewhere
elsewhere s cycle not-next = go (is_next s cycle) not-next
  where
    go : (b : Bool) → (b ≡ true → ⊥) → Elsewhere ≡ cond b (told_at cycle.skip s cycle.count cycle.place) Elsewhere
    go true h = absurd (h refl)
    go false h = refl

-- not open
pub returns-then-not-is_open : goal.returns-then-not-is_open
returns-then-not-is_open c =
    let args = c.args in
    elsewhere args.shape args.self
    (λ e. false≢true (sym c.if-not-is_open.true ∙ c.is_open.ensures ∙ ap is_open (next-phase args.shape c.requires.taken args.self e)))

-- past the longest cycle
pub returns-then-not-within_longest : goal.returns-then-not-within_longest
returns-then-not-within_longest c =
    let args = c.args in
    let above = leb-false args.self.count most_steps (sym c.within_longest.ensures ∙ c.if-not-within_longest.true) in
    elsewhere args.shape args.self
    (λ e.
    omega (
      arith,
      above,
      (next-record args.shape c.requires.taken args.self e).1,
      lookups-high args.self.skip args.shape c.requires.taken,
    ))

-- open, and walked
pub returns : goal.returns
unfolding is_next
returns c =
    let args = c.args in
    let self = args.self in
    let opens : is_open self.phase ≡ true = sym c.is_open.ensures ∙ c.if-not-is_open.false in
    let asked : Bool = is_place_of self.skip args.shape self.count self.place in
    c.locate.ensures ∙ ap (λ b. cond (b && asked) (told_at self.skip args.shape self.count self.place) Elsewhere) (sym opens)
