-- What a caller has to know before he lends anything, and an example.
pub mod Sizes
pub mod Examples
