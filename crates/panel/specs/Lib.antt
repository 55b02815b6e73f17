-- What a reader has to believe of the panel: what it is told, what the code's answer says, and the claims.
pub mod Panel
pub mod Answers
pub mod Claims
pub mod Examples
pub mod Reads
