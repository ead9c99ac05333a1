pub mod Widths
pub mod Words
pub mod Names
pub mod Worths
pub mod Selects
pub mod Operations
pub mod Constants
pub mod Terms
