-- The definitions that the contracts cite, in reading order.
pub mod Lines
pub mod Forms
pub mod Front
pub mod Roles
pub mod Step
pub mod Faults
