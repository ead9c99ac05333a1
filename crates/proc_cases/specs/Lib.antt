pub mod Masks
pub mod Full
