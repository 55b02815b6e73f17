-- The check matrix as the code has it, what the code adds up, and what its functions ask.
pub mod Cell
pub mod Matrices
pub mod Digits
pub mod Rows
