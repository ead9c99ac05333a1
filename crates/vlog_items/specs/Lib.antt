pub mod Bytes
pub mod Modes
pub mod Items
pub mod Stack
