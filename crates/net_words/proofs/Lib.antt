pub mod BuildLemmas
pub mod WorthLemmas
pub mod BitWorths
pub mod WordSteps
pub mod WordWorths
pub mod SumWorths
pub mod ComparisonWorths
mod ShiftSteps
pub mod ShiftWorths
