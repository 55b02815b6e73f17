-- What the calls for C tell: a number, and a value.
pub mod Numbers
pub mod Routes
