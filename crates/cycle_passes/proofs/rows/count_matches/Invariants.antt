-- `cycle_passes::rows::count_matches` meets its contract: the first i rows have their match bytes and counters. Assumes nothing.
use Rattle.cycle_passes.specs.Passes.{column_match, column_matches, counted_byte}
use Rattle.cycle_passes.proofs.Pass.{Pass}
use Rattle.cycle_passes.proofs.rows.count_matches.Given as goal

abbrev pub invariant-loop-i : goal.invariant-loop-i
invariant-loop-i l = record {
  matched : Pass (column_match l.input l.lines l.initial.matches) l.initial.matches l.i l.matches;
  counted : Pass (counted_byte l.radix l.initial.counters (column_matches l.input l.lines l.initial.matches)) l.initial.counters l.i l.counters;
}
