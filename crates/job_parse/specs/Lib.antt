-- The fields of a job, and its questions.
pub mod Parse
pub mod Framed
