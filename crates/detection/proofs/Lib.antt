-- The theorems on lists of calls, and the laws that they rest on.
pub mod Elements
pub mod Rows
pub mod ZeroRow
pub mod Course
pub mod Still
pub mod Opening
pub mod Agreement
pub mod Keeping
pub mod Marks
pub mod Detection
pub mod Commits
pub mod Shutdown
pub mod Examples
