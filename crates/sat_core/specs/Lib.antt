pub mod Counts
pub mod Answers
pub mod Path
pub mod Marked
pub mod Search
