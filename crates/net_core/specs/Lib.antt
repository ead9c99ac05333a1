pub mod Folds
pub mod Net
pub mod Bits
