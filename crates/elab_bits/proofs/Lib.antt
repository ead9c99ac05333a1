mod Rows
mod ReadForms
mod TargetForms
mod IndexForms
mod AssignedForms
mod BodyForms
mod FirstPlaces
mod IndexLaws
