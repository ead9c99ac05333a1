pub mod Reading
pub mod Plain
pub mod Exprs
pub mod Ahead
pub mod Nests
pub mod Begins
