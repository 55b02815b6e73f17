-- The laws on lists of calls that the crates above cite.
pub mod Runs
