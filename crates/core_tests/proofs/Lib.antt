pub mod BuiltNetLemmas
