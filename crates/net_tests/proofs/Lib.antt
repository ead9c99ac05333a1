pub mod ConeNetLemmas
pub mod TreeNetLemmas
pub mod ExampleNetLemmas
pub mod PinOrders
