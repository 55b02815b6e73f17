-- What a job prints, and how it stands in a buffer.
pub mod Text
pub mod Written
