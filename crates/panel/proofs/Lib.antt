-- Searches through bytes, and the proofs of the claims on totals and panel.
pub mod Searches
pub mod Readings
pub mod FirstFlags
pub mod TotalsKept
pub mod FullReading
pub mod OneBlock
pub mod Examples
