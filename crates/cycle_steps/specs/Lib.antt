-- Many steps as one call.
pub mod Steps
pub mod Claims
pub mod Tests
