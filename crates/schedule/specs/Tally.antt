-- What a detection cycle keeps of one row, its counter and its flag, and what each lookup does to them.
use Rattle.std.specs.Prelude.{Bool, cond, not, ◌&&◌, List, [], ◌∷◌, ℕ, ◌+◌, ◌%◌, eqb}
use Rattle.parity.specs.Match.{line_match}
use Rattle.parity.specs.Shape.{levels}
use Rattle.parity.specs.declared.Shape.{Shape}
use Rattle.schedule.specs.Schedule.{Kind, opens, counts, Entry, test_vector}

-- the counter, and the flag: 0, or a byte that is not 0
pub record Tally : Type 0 where
  pub counter : ℕ
  pub flag : ℕ

-- an opening leaves the counter as it is; a test adds the match byte to it mod ρ
abbrev pub counted : Kind → ℕ → ℕ → ℕ → ℕ
counted (opens byte) ρ counter match = counter
counted counts ρ counter match = (counter + match) % ρ

-- whether a row is to be flagged: at an opening where its match byte is not that of a sound line, at a test where its counter isn't 0
abbrev pub is_suspect : Kind → ℕ → ℕ → Bool
is_suspect (opens byte) match counter = not (eqb match byte)
is_suspect counts match counter = not (eqb counter 0)

-- an entry that flags: such a row is flagged 1; no flag falls back
unfoldable pub flagged : Entry → ℕ → ℕ → ℕ → ℕ
flagged e match counter flag = cond (e.flags && is_suspect e.kind match counter) 1 flag

-- an entry that resets: counters return to 0
unfoldable pub reset : Entry → ℕ → ℕ
reset e counter = cond e.resets 0 counter

-- one lookup's effect on the tally of a row with this line byte and these cells
unfoldable pub tally_step : Shape → ℕ → List ℕ → Entry → Tally → Tally
tally_step shape line row e tally =
    let match = line_match (levels shape) line (test_vector shape e) row in
    let counter = counted e.kind shape.radix tally.counter match in
    record { counter = reset e counter; flag = flagged e match counter tally.flag }

-- the effect of several lookups, in order
abbrev pub tally_run : Shape → ℕ → List ℕ → List Entry → Tally → Tally
tally_run shape line row [] tally = tally
tally_run shape line row (e ∷ es) tally = tally_run shape line row es (tally_step shape line row e tally)

-- the tally after a start
abbrev pub fresh_tally : Tally
fresh_tally = record { counter = 0; flag = 0 }
