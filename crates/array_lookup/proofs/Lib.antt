-- The laws that several functions' proofs cite, here and in the crates above.
pub mod Front
pub mod Narrowing
pub mod RowBytes
pub mod Asked
pub mod Asking
pub mod FirstRows
pub mod Searching
