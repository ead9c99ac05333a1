pub mod Threads
pub mod Ranges
pub mod Parameters
pub mod Signals
pub mod Tables
pub mod Openings
