-- The definitions that the contracts cite, in reading order.
pub mod Order
pub mod Loops
pub mod Walk
