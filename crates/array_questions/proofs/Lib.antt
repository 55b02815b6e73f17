-- How the questions of a call are answered, one after the other, and what it says of a call's arguments that no question on them fails.
pub mod Asked
pub mod Leveled
