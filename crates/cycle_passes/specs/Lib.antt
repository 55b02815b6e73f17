-- What the passes over the rows leave.
pub mod Passes
