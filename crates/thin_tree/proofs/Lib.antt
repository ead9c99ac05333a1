pub mod Pushed
pub mod Gathered
pub mod TableLemmas
pub mod Leading
pub mod Named
