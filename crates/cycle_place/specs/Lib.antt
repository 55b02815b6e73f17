-- The place of a lookup in the schedule; and what the passes over the columns and the walk through the schedule tell.
pub mod Digits
pub mod Places
pub mod Survey
pub mod Walk
