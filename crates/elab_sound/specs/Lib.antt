pub mod Ranges
pub mod Selects
pub mod Sound
