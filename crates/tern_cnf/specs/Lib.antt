pub mod Written
pub mod Rails
pub mod Sums
pub mod Asked
pub mod States
pub mod Grown
