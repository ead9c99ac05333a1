pub mod Kleene
pub mod Monotone
pub mod Algebra
pub mod Shifts
pub mod Words
pub mod Numbers
pub mod WordLaws
