-- What a reader has to believe: lists of the router's calls, the log of rules, the theorems as types, and computed examples.
pub mod Run
pub mod Log
pub mod Claims
pub mod Examples
