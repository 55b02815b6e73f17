-- What is lent to a call, what the calls answer with, and what the questions on a shape give.
pub mod Refusals
pub mod Answers
pub mod Shapes
pub mod Bounds
