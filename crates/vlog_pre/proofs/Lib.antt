pub mod MeaningLemmas
pub mod TextLemmas
pub mod TurnLemmas
pub mod ReachLemmas
pub mod OneLemmas
pub mod CopyLemmas
