-- The lemmas.
pub mod LinesLemmas
pub mod CutLemmas
pub mod FormsLemmas
pub mod FileLemmas
