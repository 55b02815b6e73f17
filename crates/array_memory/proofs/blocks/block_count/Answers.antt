-- `array_memory::blocks::block_count` meets its contract. Assumes nothing.
use native.Mathlib.Omega.{arith}
use Rattle.array_memory.specs.Blocks.{blocks_of}
use Rattle.array_memory.proofs.blocks.block_count.Goals as goal

-- whole and short blocks
pub returns : goal.returns
unfolding blocks_of
returns c = omega arith
