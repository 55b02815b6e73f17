-- The example, computed. Assumes nothing.
use mathlib.Core.Path.{refl}
use Rattle.parity.specs.Shape.{digit, levels, largest, limit, redundancy, checks, columns, cell_count}
use Rattle.parity.specs.Matrix.{weight, of_weight, column_order, eligible, rule_columns, check_columns, matrix, support, matrix_ones, lookups}
use Rattle.array_memory.specs.Blocks.{blocks_of}
use Rattle.cycle_sizes.specs.Sizes.{sizes_call}
use Rattle.cycle_sizes.specs.Examples.{SizesExampleClaim}

pub sizes_example_claim : SizesExampleClaim
unfolding
    sizes_call digit levels largest limit redundancy checks columns cell_count weight of_weight column_order eligible rule_columns check_columns matrix
    support matrix_ones lookups blocks_of
sizes_example_claim = refl
