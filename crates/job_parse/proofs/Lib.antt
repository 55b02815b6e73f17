-- The laws that the proofs of the functions, here and in the crate above, cite.
pub mod Joined
pub mod JobQuestions
