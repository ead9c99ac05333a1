pub mod Runs
pub mod Targets
pub mod Labels
pub mod Cases
pub mod Bodies
pub mod Laws
pub mod Ready
