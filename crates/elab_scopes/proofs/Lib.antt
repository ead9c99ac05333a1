pub mod ThreadLemmas
pub mod PlaceForms
pub mod ParameterForms
pub mod SignalForms
