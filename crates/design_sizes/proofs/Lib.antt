mod Rows
mod NameForms
mod PartForms
mod WalkForms
mod TargetForms
mod StatementForms
mod StatementLemmas
