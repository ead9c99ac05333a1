pub mod TableLemmas
pub mod ListLemmas
pub mod ItemForms
