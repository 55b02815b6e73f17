-- What a reader has to believe: the router's calls, and what their answers say; last what only serves the code.
pub mod Calls
pub mod Routes
pub mod Answers
pub mod Pairs
