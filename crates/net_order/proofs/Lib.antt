pub mod Firsts
pub mod Stepping
pub mod Reading
pub mod Rows
