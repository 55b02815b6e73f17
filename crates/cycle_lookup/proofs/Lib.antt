-- The laws that the proofs of the two lookups cite.
pub mod Passes
