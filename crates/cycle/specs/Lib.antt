-- What a reader has to believe of the detection cycle: the record, each call as one definition, and what a method returns.
pub mod Record
pub mod Calls
pub mod Claims
pub mod Methods
pub mod Moves
