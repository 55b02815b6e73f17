-- The examples, computed. Assumes nothing.
use mathlib.Core.Path.{refl}
use Rattle.parity.specs.Shape.{digit, levels, largest, limit, redundancy, checks, columns, cell_count}
use Rattle.parity.specs.Matrix.{weight, of_weight, column_order, eligible, rule_columns, check_columns, matrix, support, matrix_ones, lookups}
use Rattle.parity.specs.Codeword.{is_codeword, number, check_digit, check_cell, encode}
use Rattle.parity.specs.Match.{match_byte, line_gives, line_match, task_vector}
use Rattle.schedule.specs.Schedule.{factors, of_digit, sweep, of_check, tests, schedule, unit_vector, test_vector}
use Rattle.schedule.specs.Tally.{flagged, reset}
use Rattle.shape.specs.Answers.{calling}
use Rattle.array_memory.specs.Blocks.{blocks_of, block_at, count_flagged, block_totals}
use Rattle.array_memory.specs.Geometry.{row_at, with_row, row_match, match_bytes}
use Rattle.array.specs.Calls.{drifted, drift_call, line_set, line_call, row_written, ask_call}
use Rattle.array_lookup.specs.Lookups.{task_matches, task_count, lookup_call, first_call}
use Rattle.cycle_place.specs.Places.{entry_at, next_at, is_place_of}
use Rattle.cycle_lookup.specs.Lookup.{entry_matches, counted_rows, flagged_rows, totalled_blocks, reset_rows, looked_up}
use Rattle.cycle.specs.Record.{cycle_at, is_next}
use Rattle.cycle.specs.Calls.{zero_rows, cleared, fresh, program_call, commit_call, started, start_call, step_matches, stepped_memory, stepped, step_call}
use Rattle.cycle_steps.specs.Steps.{steps_call}
use Rattle.call_lists.specs.Run.{run}
use Rattle.detection.specs.Log.{blank, log}
use Rattle.detection.specs.Examples.{ExamplesClaim, examples, DriftExamplesClaim, drifting, LineExamplesClaim, line_examples}
use Rattle.detection.specs.Examples.{CoarseExamplesClaim, coarse_cycle, OpeningExampleClaim, ShortedExampleClaim}
use Rattle.detection.specs.Examples.{AskExampleClaim, asking, CommitExampleClaim, RefusedExampleClaim, refused_calls}
use Rattle.detection.specs.Examples.{AnsweredExampleClaim, StepsExampleClaim}

pub examples_claim : ExamplesClaim
unfolding
    examples run log blank calling zero_rows cleared fresh program_call drift_call lookup_call start_call step_call started stepped stepped_memory drifted
    row_written
    task_matches task_count entry_matches counted_rows flagged_rows totalled_blocks reset_rows looked_up step_matches entry_at next_at is_place_of cycle_at
    is_next
    cell_count blocks_of block_at count_flagged block_totals row_at with_row row_match match_bytes flagged reset factors of_digit sweep of_check tests schedule
    unit_vector test_vector match_byte line_gives line_match task_vector
    number check_digit check_cell encode weight of_weight column_order eligible rule_columns check_columns matrix support matrix_ones lookups
    digit levels largest limit redundancy checks columns
examples_claim = refl

pub drift_examples_claim : DriftExamplesClaim
unfolding
    drifting run log blank calling zero_rows cleared fresh program_call drift_call start_call step_call started stepped stepped_memory drifted row_written
    entry_matches counted_rows flagged_rows totalled_blocks reset_rows looked_up step_matches entry_at next_at is_place_of cycle_at is_next
    cell_count blocks_of block_at count_flagged block_totals row_at with_row row_match match_bytes flagged reset factors of_digit sweep of_check tests schedule
    unit_vector test_vector match_byte line_gives line_match
    number check_digit check_cell encode weight of_weight column_order eligible rule_columns check_columns matrix support matrix_ones lookups
    digit levels largest limit redundancy checks columns
drift_examples_claim = refl

pub line_examples_claim : LineExamplesClaim
unfolding
    line_examples run log blank calling zero_rows cleared fresh line_call start_call step_call started stepped stepped_memory line_set
    entry_matches counted_rows flagged_rows totalled_blocks reset_rows looked_up step_matches entry_at next_at is_place_of cycle_at is_next cell_count
    blocks_of block_at
    count_flagged block_totals row_at row_match match_bytes flagged reset factors of_digit sweep of_check tests schedule unit_vector test_vector match_byte
    line_gives line_match weight of_weight column_order eligible rule_columns check_columns matrix support matrix_ones lookups
    digit levels largest limit redundancy checks columns
line_examples_claim = refl

pub coarse_examples_claim : CoarseExamplesClaim
unfolding
    coarse_cycle run log blank calling zero_rows cleared fresh program_call drift_call start_call step_call started stepped stepped_memory drifted row_written
    entry_matches counted_rows flagged_rows totalled_blocks reset_rows looked_up step_matches entry_at next_at is_place_of cycle_at is_next cell_count
    blocks_of block_at
    count_flagged
    block_totals row_at with_row row_match match_bytes flagged reset factors of_digit sweep of_check tests schedule unit_vector test_vector match_byte
    line_gives line_match
    number check_digit check_cell encode weight of_weight column_order eligible rule_columns check_columns matrix support matrix_ones lookups
    digit levels largest limit redundancy checks columns
coarse_examples_claim = refl

pub opening_example_claim : OpeningExampleClaim
unfolding
    run calling zero_rows cleared fresh line_call start_call step_call started stepped stepped_memory line_set
    entry_matches counted_rows flagged_rows totalled_blocks reset_rows looked_up step_matches entry_at next_at is_place_of cycle_at is_next cell_count
    blocks_of block_at
    count_flagged block_totals row_at row_match match_bytes flagged reset factors of_digit sweep of_check tests schedule unit_vector test_vector match_byte
    line_gives line_match weight of_weight column_order eligible rule_columns check_columns matrix support matrix_ones lookups
    digit levels largest limit redundancy checks columns
opening_example_claim = record { matches = refl; flags = refl; counters = refl; count = refl }

pub shorted_example_claim : ShortedExampleClaim
unfolding
    run log blank calling zero_rows cleared fresh program_call line_call lookup_call first_call start_call step_call started stepped stepped_memory
    row_written line_set
    task_matches task_count entry_matches counted_rows flagged_rows totalled_blocks reset_rows looked_up step_matches entry_at next_at is_place_of cycle_at
    is_next
    cell_count blocks_of block_at count_flagged block_totals row_at with_row row_match match_bytes flagged reset factors of_digit sweep of_check tests schedule
    unit_vector test_vector match_byte line_gives line_match task_vector
    number check_digit check_cell encode weight of_weight column_order eligible rule_columns check_columns matrix support matrix_ones lookups
    digit levels largest limit redundancy checks columns
shorted_example_claim = record { refused = refl; looked = refl; high = refl; found = refl; first = refl; second = refl; ended = refl }

pub ask_example_claim : AskExampleClaim
unfolding
    asking run log blank calling zero_rows cleared fresh program_call commit_call ask_call drift_call start_call step_call started stepped stepped_memory
    drifted
    row_written entry_matches counted_rows flagged_rows totalled_blocks reset_rows looked_up step_matches entry_at next_at is_place_of cycle_at is_next
    cell_count blocks_of
    block_at count_flagged block_totals row_at with_row row_match match_bytes flagged reset factors of_digit sweep of_check tests schedule unit_vector
    test_vector
    match_byte line_gives line_match is_codeword number check_digit check_cell encode weight of_weight column_order eligible rule_columns check_columns matrix
    support
    matrix_ones lookups digit levels largest limit redundancy checks columns
ask_example_claim = record { changed = refl; finished = refl; left = refl }

pub commit_example_claim : CommitExampleClaim
unfolding
    run calling zero_rows cleared fresh program_call commit_call ask_call row_written cell_count blocks_of row_at with_row is_codeword number check_digit
    check_cell encode
    weight of_weight column_order eligible rule_columns check_columns matrix support digit levels largest limit redundancy checks columns
commit_example_claim = record { changed = refl; finished = refl; unsound = refl; high = refl }

pub refused_example_claim : RefusedExampleClaim
unfolding
    refused_calls run calling zero_rows cleared fresh program_call commit_call ask_call lookup_call drift_call line_call start_call step_call started stepped
    stepped_memory row_written task_matches task_count task_vector drifted line_set entry_matches counted_rows flagged_rows totalled_blocks reset_rows looked_up
    step_matches entry_at next_at is_place_of cycle_at is_next cell_count blocks_of block_at count_flagged block_totals row_at with_row row_match match_bytes
    flagged reset factors of_digit sweep of_check tests schedule unit_vector test_vector match_byte line_gives line_match is_codeword number check_digit
    check_cell encode weight
    of_weight column_order eligible rule_columns check_columns matrix support matrix_ones lookups digit levels largest limit redundancy checks columns
refused_example_claim = record { numbers = refl; closed = refl }

pub answered_example_claim : AnsweredExampleClaim
unfolding
    run calling zero_rows cleared fresh program_call ask_call lookup_call task_matches task_count task_vector start_call step_call started stepped
    stepped_memory
    row_written entry_matches counted_rows flagged_rows totalled_blocks reset_rows looked_up step_matches entry_at next_at is_place_of cycle_at is_next
    cell_count
    blocks_of block_at count_flagged block_totals row_at with_row row_match match_bytes flagged reset factors of_digit sweep of_check tests schedule unit_vector
    test_vector match_byte line_gives line_match number check_digit check_cell encode weight of_weight column_order eligible rule_columns check_columns matrix
    support
    matrix_ones lookups digit levels largest limit redundancy checks columns
answered_example_claim = record { matched = refl; counted = refl; unmatched = refl; finished = refl; changed = refl; stepped = refl }

pub steps_example_claim : StepsExampleClaim
unfolding
    steps_call run calling zero_rows cleared fresh program_call start_call step_call started stepped stepped_memory row_written entry_matches counted_rows
    flagged_rows totalled_blocks reset_rows looked_up step_matches entry_at next_at is_place_of cycle_at is_next cell_count blocks_of block_at count_flagged
    block_totals row_at with_row row_match match_bytes flagged reset factors of_digit sweep of_check tests schedule unit_vector test_vector match_byte
    line_gives line_match
    number check_digit check_cell encode weight of_weight column_order eligible rule_columns check_columns matrix support matrix_ones lookups digit levels
    largest limit redundancy checks columns
steps_example_claim = record { counts = refl; all = refl; all_matches = refl; matches = refl; taken = refl; ended = refl }
