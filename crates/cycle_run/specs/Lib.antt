-- A whole cycle as one call.
pub mod Cycles
