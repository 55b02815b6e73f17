-- The laws that the proofs of the functions, here and in the crate above, cite.
pub mod CheckRows
pub mod Padding
pub mod Spans
pub mod NextFactor
pub mod Places
pub mod Standing
pub mod Openings
pub mod Following
