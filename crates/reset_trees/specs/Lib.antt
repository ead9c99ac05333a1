-- The definitions that the contracts cite, in reading order.
pub mod Reads
pub mod Trees
pub mod Domain
pub mod Domains
pub mod Roles
pub mod Same
pub mod Problems
pub mod Tables
pub mod Marking
pub mod Reach
pub mod Graph
pub mod PinSteps
pub mod TangledNet
