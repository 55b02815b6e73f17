-- The proofs of this crate's functions, each in the folder of its function, and the laws on refusals and on a loop's search that the
-- crates above cite.
pub mod Refusals
pub mod Calling
pub mod Search
