-- The laws that the functions' proofs and the crates above cite.
pub mod Stepping
pub mod OpeningMade
pub mod HeldColumn
pub mod StepsLeft
