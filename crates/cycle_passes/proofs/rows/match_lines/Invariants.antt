-- `cycle_passes::rows::match_lines` meets its contract: the first i bytes are what the first i lines give. Assumes nothing.
use Rattle.cycle_passes.specs.Passes.{given_byte}
use Rattle.cycle_passes.proofs.Pass.{Pass}
use Rattle.cycle_passes.proofs.rows.match_lines.Given as goal

abbrev pub invariant-loop-i : goal.invariant-loop-i
invariant-loop-i l = Pass (given_byte l.said l.lines) l.initial.matches l.i l.matches
