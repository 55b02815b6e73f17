-- The theorem on the words.
pub mod ReadBack
