-- The lemmas.
pub mod FirstLemmas
pub mod TableLemmas
pub mod ClockLemmas
pub mod PinLemmas
pub mod ReachLemmas
pub mod DomainLemmas
pub mod StepLemmas
pub mod LevelLemmas
pub mod SameLemmas
pub mod EdgeLemmas
pub mod CalmLemmas
pub mod ListedLemmas
mod TangledNetLemmas
