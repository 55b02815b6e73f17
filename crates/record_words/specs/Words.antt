-- The cycle record as seven words: its phase, check, digit, column, factor, count and the digits that it skips; and a call on a record that lies
-- in words.
use Rattle.std.specs.Prelude.{cond, List, [], ◌∷◌, ℕ, eqb, get_or}
use Rattle.shape.specs.Answers.{Said, Result, giving}
use Rattle.array_memory.specs.Memory.{Memory}
use Rattle.cycle_place.specs.Places.{place_at}
use Rattle.cycle.specs.Calls.{State, state_of}
use Rattle.cycle.specs.declared.Cycle.{Cycle}
use Rattle.cycle.specs.declared.Phase.{Phase}
use Rattle.cycle.specs.declared.Phase.TheVariants.{Idle, Open, Complete}

-- the phase of a word: 1 is open, 2 is complete, any other is idle
abbrev pub phase_of : ℕ → Phase
phase_of word = cond (eqb word 1) Open (cond (eqb word 2) Complete Idle)

-- the word of a phase
abbrev pub phase_word : Phase → ℕ
phase_word Idle = 0
phase_word Open = 1
phase_word Complete = 2

-- the record that seven words tell
abbrev pub cycle_of : List ℕ → Cycle
cycle_of words =
    record {
      phase = phase_of (get_or words 0 0);
      place = place_at (get_or words 1 0) (get_or words 2 0) (get_or words 3 0) (get_or words 4 0);
      count = get_or words 5 0;
      skip = get_or words 6 0;
    }

-- the seven words of a record
abbrev pub words_of : Cycle → List ℕ
words_of cycle =
    let place = cycle.place in
    phase_word cycle.phase ∷ place.check ∷ place.digit ∷ place.column ∷ place.factor ∷ cycle.count ∷ cycle.skip ∷ []

-- the words after a call: those of its record where it is taken, those given where it is refused
abbrev pub words_after : Said ℕ → Cycle → List ℕ → List ℕ
words_after said cycle words = cond said.taken (words_of cycle) words

-- the lent state of an array whose record lies in words
pub record Stored : Type 0 where
  pub memory : Memory
  pub words : List ℕ

abbrev pub stored_of : Memory → List ℕ → Stored
stored_of memory words = record { memory = memory; words = words }

-- all that a call gives, with its record stored in the words given
abbrev pub storing : Result State → List ℕ → Result Stored
storing r words = giving r.said r.bytes (stored_of r.state.memory (words_after r.said r.state.cycle words))

-- a call on a memory and a record in words: the record is read from them and stored in them
abbrev pub on_words : (State → Result State) → Memory → List ℕ → Result Stored
on_words call mem words = storing (call (state_of mem (cycle_of words))) words
