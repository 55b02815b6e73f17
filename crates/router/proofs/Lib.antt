-- The laws that the proofs of the router cite.
pub mod PairLaws
