pub mod Sizes
pub mod Hierarchy
pub mod Tops
pub mod Tables
