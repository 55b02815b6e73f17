-- The laws that the proofs of the functions, and the crates above, cite.
pub mod Asked
pub mod Asking
