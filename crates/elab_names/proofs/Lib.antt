mod NameLemmas
mod AnswerLemmas
pub mod Lists
mod HoldForms
mod PutForms
mod TargetForms
mod StatementForms
mod KeptWorth
