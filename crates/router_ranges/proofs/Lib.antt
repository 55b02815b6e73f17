-- The theorem on ranges, and the laws that the crates above cite.
pub mod Pairs
pub mod Ranges
