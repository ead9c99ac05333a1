pub mod Builds
pub mod Bits
pub mod Words
pub mod Shifts
pub mod Sums
pub mod Products
pub mod Comparisons
