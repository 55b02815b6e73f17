-- The examples, computed. Assumes nothing.
use mathlib.Core.Path.{refl}
use Rattle.parity.specs.Shape.{digit, levels, largest, limit, redundancy, checks, columns, cell_count}
use Rattle.parity.specs.Matrix.{weight, of_weight, column_order, eligible, rule_columns, check_columns, matrix, support}
use Rattle.parity.specs.Codeword.{number, check_digit, check_cell, encode}
use Rattle.parity.specs.Match.{match_byte, line_gives, line_match, task_vector}
use Rattle.shape.specs.Answers.{calling}
use Rattle.array_memory.specs.Blocks.{blocks_of}
use Rattle.array_memory.specs.Geometry.{row_at, with_row, row_match}
use Rattle.array.specs.Calls.{drifted, drift_call, line_set, line_call, row_written}
use Rattle.array_lookup.specs.Lookups.{first_call}
use Rattle.cycle.specs.Calls.{zero_rows, cleared, fresh, clear_call, program_call}
use Rattle.detection.specs.Log.{blank}
use Rattle.router_ranges.specs.Ranges.{features, rule_levels, bottle_inputs, ranges_in}
use Rattle.router.specs.Calls.{rule_call, rule_at_call}
use Rattle.router.specs.Routes.{route_call}
use Rattle.router_lists.specs.Run.{run_router}
use Rattle.router_lists.specs.Log.{router_log}
use Rattle.router_lists.specs.Examples.{book, BookExampleClaim, bottles, RoutesExampleClaim, histories, HistoriesExampleClaim}
use Rattle.router_lists.specs.Examples.{rule_calls, RefusedExampleClaim, ReadExampleClaim, LogExampleClaim}

pub book_example_claim : BookExampleClaim
unfolding
    book run_router rule_call calling zero_rows cleared fresh program_call row_written with_row rule_levels features cell_count
    number check_digit check_cell encode weight of_weight column_order eligible rule_columns check_columns matrix support
    digit levels largest limit redundancy checks columns
book_example_claim = (refl, refl)

pub routes_example_claim : RoutesExampleClaim
unfolding
    book bottles run_router route_call rule_call calling zero_rows cleared fresh program_call row_written with_row row_at row_match first_call rule_levels
    bottle_inputs
    features cell_count match_byte line_gives line_match task_vector
    number check_digit check_cell encode weight of_weight column_order eligible rule_columns check_columns matrix support
    digit levels largest limit redundancy checks columns
routes_example_claim = refl

pub histories_example_claim : HistoriesExampleClaim
unfolding
    book histories run_router route_call rule_call calling zero_rows cleared fresh clear_call program_call drift_call line_call row_written drifted line_set
    with_row row_at
    row_match first_call rule_levels bottle_inputs features cell_count blocks_of match_byte line_gives line_match task_vector
    number check_digit check_cell encode weight of_weight column_order eligible rule_columns check_columns matrix support
    digit levels largest limit redundancy checks columns
histories_example_claim = (refl, refl)

pub refused_example_claim : RefusedExampleClaim
unfolding
    book rule_calls run_router route_call rule_call calling zero_rows cleared fresh program_call row_written with_row rule_levels features cell_count
    number check_digit check_cell encode weight of_weight column_order eligible rule_columns check_columns matrix support
    digit levels largest limit redundancy checks columns
refused_example_claim = (refl, refl, refl, refl)

pub read_example_claim : ReadExampleClaim
unfolding
    book run_router rule_call rule_at_call calling zero_rows cleared fresh program_call row_written with_row row_at rule_levels ranges_in features cell_count
    number check_digit check_cell encode weight of_weight column_order eligible rule_columns check_columns matrix support
    digit levels largest limit redundancy checks columns
read_example_claim = (refl, refl)

pub log_example_claim : LogExampleClaim
unfolding book router_log blank features levels
log_example_claim = refl
