pub mod SmallNet
