-- The theorem on the words, as a type; the proof is in proofs/.
use Rattle.std.specs.Prelude.{◌≡◌}
use Rattle.cycle.specs.declared.Cycle.{Cycle}
use Rattle.record_words.specs.Words.{cycle_of, words_of}

-- The words of a record are read back as that record.
abbrev pub WordsClaim : Type 0
WordsClaim = (cycle : Cycle) → cycle_of (words_of cycle) ≡ cycle
