-- What a reader has to believe: the definitions of document 01's lower part, in its order, and the theorems as types.
pub mod Lists
pub mod Shape
pub mod Matrix
pub mod Plan
pub mod Codeword
pub mod Match
pub mod Questions
pub mod Marked
pub mod Claims
pub mod Fewest
