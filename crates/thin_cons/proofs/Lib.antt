-- The lemmas.
pub mod NetLemmas
pub mod Declared
pub mod FormsLemmas
pub mod LinesLemmas
pub mod RolesLemmas
