pub mod Entries
pub mod Mentions
pub mod Tables
