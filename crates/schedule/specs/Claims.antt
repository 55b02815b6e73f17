-- The theorems on the schedule, as types; the proofs are in proofs/.
use Rattle.std.specs.Prelude.{◌≡◌, ◌↔◌, ◌≢◌, true, List, [], ◌∷◌, map, ℕ, ◌-◌, ◌%◌, ◌<◌, min, length, get_or}
use Rattle.parity.specs.Shape.{levels, checks, columns}
use Rattle.parity.specs.Matrix.{support, lookups, cycle_steps}
use Rattle.parity.specs.Codeword.{Codeword}
use Rattle.parity.specs.Claims.{Below}
use Rattle.parity.specs.Questions.{Taken}
use Rattle.parity.specs.declared.Shape.{Shape}
use Rattle.schedule.specs.Schedule.{Entry, tests, dead_opening, shorted_opening, schedule}
use Rattle.schedule.specs.Coarse.{BalancedFrom, is_balanced_from}
use Rattle.schedule.specs.Index.{IsPlace, place_index, entry_of}
use Rattle.schedule.specs.Tally.{Tally, tally_run, fresh_tally}

-- The schedule has two openings and (q / ρ^z − 1) × W tests, whatever the number of rows.
abbrev pub LengthClaim : Type 0
LengthClaim = (z : ℕ) (s : Shape) → Taken s → (length (schedule z s) ≡ cycle_steps z s) × (length (tests z s) ≡ lookups z s)

-- The test of the digit sums from z on passes exactly where each is 0 mod ρ.
abbrev pub BalancedClaim : Type 0
BalancedClaim = (z : ℕ) (s : Shape) (row : List ℕ) → (is_balanced_from z s row ≡ true) ↔ BalancedFrom z s row

-- A row of n cells below q is sound exactly where its digit sums are balanced from 0 on.
abbrev pub SoundClaim : Type 0
SoundClaim =
    (s : Shape) (row : List ℕ) → length row ≡ columns s → Below (levels s) (columns s) row → BalancedFrom 0 s row ↔ Codeword s row

-- what a cycle leaves of a row with a sound line: counter 0, and flag 0 where the row is balanced from z on, 1 where it is not
pub record AfterCycle (z : ℕ) (s : Shape) (row : List ℕ) (tally : Tally) : Type 0 where
  pub counter : tally.counter ≡ 0
  pub balanced : BalancedFrom z s row → tally.flag ≡ 0
  pub unbalanced : (BalancedFrom z s row → ⊥) → tally.flag ≡ 1

-- A whole cycle leaves this of every row of n cells below q whose line is sound.
abbrev pub FlagClaim : Type 0
FlagClaim =
    (z : ℕ) (s : Shape) → Taken s → (row : List ℕ) → length row ≡ columns s → Below (levels s) (columns s) row
    → AfterCycle z s row (tally_run s 0 row (schedule z s) fresh_tally)

-- A row whose line isn't sound, dead or shorted, is flagged, whatever bytes its cells hold, and its counter is 0.
abbrev pub UnsoundClaim : Type 0
UnsoundClaim =
    (z : ℕ) (s : Shape) → Taken s → (line : ℕ) → line ≢ 0 → (row : List ℕ)
    → tally_run s line row (schedule z s) fresh_tally ≡ record { counter = 0; flag = 1 }

-- Both openings are wanted: without the first nothing shows a dead row, and without the second nothing shows a shorted one where each J(ℓ) has a
-- multiple of ρ columns.
pub record UnseenClaim : Type 0 where
  pub dead :
      (z : ℕ) (s : Shape) → Taken s → (line : ℕ) → line ≢ 0 → line ≢ 2 → (row : List ℕ)
      → tally_run s line row (shorted_opening s ∷ tests z s) fresh_tally ≡ fresh_tally
  pub shorted :
      (z : ℕ) (s : Shape) → Taken s → ((ℓ : ℕ) → ℓ < checks s → length (support s ℓ) % s.radix ≡ 0) → (row : List ℕ)
      → tally_run s 2 row (dead_opening ∷ tests z s) fresh_tally ≡ fresh_tally

-- ρ 2, b 1, τ 1, k 1: its one J has 2 columns, and its tests alone leave a shorted row's counter and flag at 0. The whole schedule flags the row.
abbrev pub two_columns : Shape
two_columns = record { radix = 2; digits = 1; errors = 1; width = 1; rows = 1 }

pub record TestsAloneClaim : Type 0 where
  pub columns : map (λ ℓ. length (support two_columns ℓ)) (0 ∷ []) ≡ 2 ∷ []
  pub unseen : tally_run two_columns 2 (1 ∷ 1 ∷ []) (tests 0 two_columns) fresh_tally ≡ record { counter = 0; flag = 0 }
  pub seen : tally_run two_columns 2 (1 ∷ 1 ∷ []) (schedule 0 two_columns) fresh_tally ≡ record { counter = 0; flag = 1 }

-- A cell of q or more answers every lookup of a schedule as q − 1 does.
abbrev pub CapClaim : Type 0
CapClaim =
    (z : ℕ) (s : Shape) → Taken s → (line : ℕ) (row : List ℕ) → length row ≡ columns s
    → tally_run s line row (schedule z s) fresh_tally ≡ tally_run s line (map (λ v. min v (levels s - 1)) row) (schedule z s) fresh_tally

-- every place stands at its index among the tests, and every test is that of a place
pub record Indexed (z : ℕ) (s : Shape) : Type 0 where
  pub stands :
      (ℓ d j a : ℕ) → IsPlace z s ℓ d j a
      → (place_index z s ℓ d j a < length (tests z s)) × ((e : Entry) → get_or (tests z s) (place_index z s ℓ d j a) e ≡ entry_of z s ℓ d j a)
  pub found :
      (c : ℕ) → c < length (tests z s) → (ℓ : ℕ) × (d : ℕ) × (j : ℕ) × (a : ℕ) × IsPlace z s ℓ d j a × (place_index z s ℓ d j a ≡ c)

-- For every shape taken and every z.
abbrev pub IndexClaim : Type 0
IndexClaim = (z : ℕ) (s : Shape) → Taken s → Indexed z s
