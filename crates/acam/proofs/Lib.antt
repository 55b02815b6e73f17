-- The laws that several functions' proofs cite, here and in the crates above.
pub mod Weights
pub mod Blocks
pub mod MatrixArray
pub mod Tail
pub mod Reciprocal
pub mod Missing
pub mod DigitLoop
pub mod DigitCells
pub mod CellMatch
pub mod Comparison
pub mod TaskMatch
