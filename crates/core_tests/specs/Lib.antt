pub mod BuiltNet
