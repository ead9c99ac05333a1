-- The definitions that the contracts cite, in reading order.
pub mod Names
pub mod Declarations
pub mod Wants
pub mod Meaning
pub mod Claims
pub mod Binding
pub mod Marks
pub mod Causes
pub mod Sorts
pub mod DeclaredIn
pub mod Taken
pub mod Reading
pub mod SmallNet
