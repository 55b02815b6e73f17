-- The laws that the proofs of the functions, here and in the crate above, cite.
pub mod Decimal
pub mod Lengths
pub mod Written
