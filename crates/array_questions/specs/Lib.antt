-- What a reader has to believe of the questions of the calls on cells and lines.
pub mod Questions
