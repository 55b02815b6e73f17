-- The laws on records, questions and steps that the proofs of the functions, here and in the crates above, cite.
pub mod Asked
pub mod CycleRecord
pub mod Located
pub mod Steps
pub mod Given
pub mod Fresh
