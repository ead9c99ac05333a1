pub mod Plans
pub mod Scopes
pub mod Instances
pub mod Items
pub mod Tables
