-- What a reader has to believe of a job as a list of calls: the list, and what is claimed of it.
pub mod Jobs
