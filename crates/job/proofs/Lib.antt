-- The laws that the proofs of the functions cite.
pub mod JobCalls
pub mod JobSpace
pub mod TakenJob
