-- The examples, computed. Assumes nothing.
use mathlib.Core.Path.{refl}
use Rattle.parity.specs.Shape.{digit, levels, largest, limit, redundancy, checks, columns, cell_count}
use Rattle.parity.specs.Matrix.{rule_columns, check_columns, matrix, support}
use Rattle.parity.specs.Match.{match_byte, line_gives, line_match}
use Rattle.schedule.specs.Schedule.{factors, of_digit, sweep, of_check, tests, schedule, unit_vector, test_vector}
use Rattle.schedule.specs.Tally.{flagged, reset}
use Rattle.shape.specs.Answers.{calling}
use Rattle.array_memory.specs.Blocks.{blocks_of, block_at, count_flagged, block_totals}
use Rattle.array_memory.specs.Geometry.{row_at, row_match, match_bytes}
use Rattle.array.specs.Calls.{drifted, drift_call, line_set, line_call}
use Rattle.cycle_place.specs.Places.{entry_at, next_at, is_place_of}
use Rattle.cycle_lookup.specs.Lookup.{entry_matches, counted_rows, flagged_rows, totalled_blocks, reset_rows, looked_up}
use Rattle.cycle.specs.Record.{cycle_at, is_next}
use Rattle.cycle.specs.Calls.{zero_rows, cleared, fresh, started, start_call, stepped_memory, stepped, step_call}
use Rattle.call_lists.specs.Run.{run}
use Rattle.panel.specs.Panel.{first_nonzero, panel_reading, panel_call}
use Rattle.panel.specs.Examples.{ExamplesClaim, examples}

pub examples_claim : ExamplesClaim
unfolding
    examples run calling zero_rows cleared fresh drift_call line_call line_set start_call step_call started stepped stepped_memory drifted
    entry_matches counted_rows flagged_rows totalled_blocks reset_rows looked_up entry_at next_at is_place_of cycle_at is_next cell_count blocks_of block_at
    count_flagged block_totals row_at row_match match_bytes flagged reset factors of_digit sweep of_check tests schedule unit_vector test_vector match_byte
    line_gives line_match rule_columns check_columns matrix support digit levels largest limit redundancy checks columns first_nonzero panel_reading panel_call
examples_claim = refl
