pub mod Orders
pub mod Bits
pub mod Tallies
pub mod Flat
pub mod Tables
