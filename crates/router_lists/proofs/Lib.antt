-- The theorems on lists of the router, and the laws that they rest on.
pub mod Lowering
pub mod Fits
pub mod Searches
pub mod Matching
pub mod Routes
pub mod ReadBack
pub mod Examples
