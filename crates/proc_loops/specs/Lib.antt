pub mod Faults
pub mod Names
pub mod Scopes
pub mod Headers
pub mod Turns
pub mod Unrolled
pub mod Laws
pub mod Constants
