-- What a reader has to believe of detection: document 01's log of a list of calls, the claim of demand 3, and what ask and commit are to programming.
pub mod Log
pub mod Claims
pub mod Commits
pub mod Examples
