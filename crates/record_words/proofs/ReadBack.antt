-- The words of a record are read back as that record. Assumes nothing.
use mathlib.Core.Path.{◌≡◌, refl}
use Rattle.cycle.specs.declared.Phase.{Phase}
use Rattle.cycle.specs.declared.Phase.TheVariants.{Idle, Open, Complete}
use Rattle.record_words.specs.Words.{phase_of, phase_word}
use Rattle.record_words.specs.Claims.{WordsClaim}

phase-back : (phase : Phase) → phase_of (phase_word phase) ≡ phase
phase-back Idle = refl
phase-back Open = refl
phase-back Complete = refl

pub words_claim : WordsClaim
words_claim cycle = λ i. record { phase = phase-back cycle.phase i; place = cycle.place; count = cycle.count; skip = cycle.skip }
