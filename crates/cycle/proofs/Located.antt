-- What `locate` tells of a record, and what is known where the questions up to 6 have been passed: for a step, and for many. Assumes nothing.
use mathlib.Core.Path.{◌≡◌, refl, ap}
use mathlib.Core.Bool.{Bool, true, false, cond}
use mathlib.Core.List.{[], ◌∷◌}
use Prim.Native.Nat.{ℕ, zero, suc, ◌≤◌, ◌<◌}
use native.Mathlib.Omega.{arith}
use lib.Dec.{lit<}
use Rattle.std.specs.Prelude.{Option}
use Rattle.parity.specs.Questions.{first_no, Taken, lengths_question}
use Rattle.parity.specs.declared.Shape.{Shape}
use Rattle.parity.proofs.Taken.{first-yes}
use Rattle.parity.proofs.Longest.{lookups-high}
use Rattle.shape.proofs.Refusals.{length-lent, CallPassed, call-passed}
use Rattle.schedule.specs.Schedule.{schedule}
use Rattle.array_memory.specs.Lengths.{all_wanted, all_lengths, Sized}
use Rattle.array_memory.specs.Memory.{Memory}
use Rattle.array_memory.proofs.Asked.{all-sized}
use Rattle.array_questions.specs.Questions.{step_arguments, lent_questions}
use Rattle.cycle_place.specs.Places.{entry_at, next_at}
use Rattle.cycle_place.specs.Walk.{here_at, told_at}
use Rattle.cycle_place.specs.declared.Place.{Place}
use Rattle.cycle_place.specs.declared.walk.Here.{Here}
use Rattle.cycle_place.specs.declared.walk.Located.TheVariants.{Opening, Test, Elsewhere}
use Rattle.cycle.specs.Moves.{Movable}
use Rattle.cycle_lookup.specs.Rows.{opening_of}
use Rattle.cycle.specs.Record.{is_next}
use Rattle.cycle.specs.declared.Cycle.{Cycle}
use Rattle.cycle.proofs.CycleRecord.{next-record, next-phase}

module _ (z : ℕ) (s : Shape) (place : Place) where
  pub told-opening :
      (b : Bool) (c byte : ℕ) (next : Option Place) → Opening byte next ≡ cond b (told_at z s c place) Elsewhere
      → (b ≡ true) × (c < 2) × (byte ≤ 1) × (entry_at z s c ≡ opening_of s byte) × (next ≡ next_at z s (suc c))
  unfolding entry_at schedule
  told-opening true zero byte next e = let own : 1 ≡ byte = cc in (refl, omega arith, omega arith, ap (opening_of s) own, cc)
  told-opening true (suc zero) byte next e = let own : 0 ≡ byte = cc in (refl, omega arith, omega arith, ap (opening_of s) own, cc)
  told-opening true (suc (suc c)) byte next e = cc
  told-opening false c byte next e = cc

  pub told-test : (b : Bool) (c : ℕ) (here : Here) → Test here ≡ cond b (told_at z s c place) Elsewhere → (b ≡ true) × (1 < c) × (here ≡ here_at z s c place)
  told-test true zero here e = cc
  told-test true (suc zero) here e = cc
  told-test true (suc (suc c)) here e = (refl, omega arith, cc)
  told-test false c here e = cc

  pub told_none : (b : Bool) (c : ℕ) → Elsewhere ≡ cond b (told_at z s c place) Elsewhere → b ≡ false
  told_none true zero e = cc
  told_none true (suc zero) e = cc
  told_none true (suc (suc c)) e = cc
  told_none false c e = refl

-- a record that question 9 takes can be moved on
pub movable : (s : Shape) → Taken s → (cycle : Cycle) → is_next s cycle ≡ true → Movable cycle
movable s t cycle next =
    record {
      open-phase = next-phase s t cycle next;
      below = omega (arith, (next-record s t cycle next).1, lookups-high cycle.skip s t);
    }

-- a memory, and m match bytes, where the questions up to 6 have been passed
module _ (s : Shape) (mem : Memory) (matches : ℕ) (none : first_no (lent_questions s [] (all_lengths mem) matches) ≡ 0) where
  passed : CallPassed s [] (lengths_question (all_lengths mem) (all_wanted s)) (step_arguments s matches)
  passed = call-passed s [] (lengths_question (all_lengths mem) (all_wanted s)) (step_arguments s matches) refl (lit< tt) none

  pub lent-taken : Taken s
  lent-taken = passed.taken

  pub lent-sized : Sized s mem
  lent-sized = all-sized s mem passed.lent

  pub lent-matches : matches ≡ s.rows
  lent-matches =
      let six = first-yes _ 0 6 (lit< tt) passed.arguments in
      length-lent (matches ∷ []) (s.rows ∷ []) six.0 0
