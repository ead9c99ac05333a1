pub mod ConeNet
pub mod TreeNet
