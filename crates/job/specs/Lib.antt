-- What a reader has to believe of the job program: the whole of it, `job_call`.
pub mod Job
pub mod Ready
