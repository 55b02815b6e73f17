-- Where a row or a block lies, how many rows are flagged, and what it says of the memory that no question on it fails.
pub mod RowPlaces
pub mod BlockPlaces
pub mod FlagCounts
pub mod Asked
