-- The definitions that the contracts cite, in reading order.
pub mod Lines
pub mod Forms
pub mod File
pub mod Front
pub mod Reading
