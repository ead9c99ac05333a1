pub mod WrittenForms
mod WrittenChoices
mod ScopeLemmas
pub mod AssignForms
pub mod HeaderForms
pub mod UnrollForms
pub mod TurnForms
pub mod LoopLaws
pub mod PlainExpressions
pub mod PlainBodies
