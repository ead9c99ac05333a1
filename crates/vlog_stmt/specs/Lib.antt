pub mod Lists
pub mod Targets
pub mod Statements
pub mod Controls
pub mod Nests
