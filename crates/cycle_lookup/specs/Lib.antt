-- What a reader has to believe: what one lookup of the schedule does to the memory.
pub mod Lookup
pub mod Rows
