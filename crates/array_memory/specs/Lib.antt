-- What a reader has to believe of the lent memory: its buffers, where a row or a block of rows lies in it, and question 6 on it.
pub mod Blocks
pub mod Memory
pub mod Lengths
pub mod Geometry
