-- The theorems on a job as a list of calls.
pub mod JobList
pub mod JobVerdict
