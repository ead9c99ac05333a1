pub mod Lists
pub mod Parts
pub mod Items
pub mod Modules
pub mod Begins
pub mod Cuts
