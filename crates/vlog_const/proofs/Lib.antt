pub mod NameLemmas
pub mod WordLemmas
pub mod PowerLemmas
pub mod SelectLemmas
pub mod WorthForms
