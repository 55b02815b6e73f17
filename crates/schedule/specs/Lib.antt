-- What a reader has to believe: the schedule of a detection cycle, what an entry of it does to one row, and the theorems as types.
pub mod Schedule
pub mod Tally
pub mod Coarse
pub mod Index
pub mod Claims
