-- `cycle_passes::rows::flag_rows` meets its contract: the first i rows have their flags, and the next flag is as it was. Assumes nothing.
use Rattle.cycle_passes.specs.Passes.{flagged_byte}
use Rattle.cycle_passes.proofs.Pass.{Pass}
use Rattle.cycle_passes.proofs.rows.flag_rows.Given as goal

abbrev pub invariant-loop-i : goal.invariant-loop-i
invariant-loop-i l = Pass (flagged_byte l.signs l.quiet l.initial.flags) l.initial.flags l.i l.flags
