-- What a reader has to believe: rules as ranges, what stands for a rule and for a bottle in the columns, and the theorem as a type.
pub mod Ranges
pub mod Claims
