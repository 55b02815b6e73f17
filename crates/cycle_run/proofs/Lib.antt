-- The law that the function's proof cites.
pub mod WholeCycle
