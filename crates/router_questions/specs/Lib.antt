-- What a reader has to believe: the router's questions, in their order.
pub mod Questions
