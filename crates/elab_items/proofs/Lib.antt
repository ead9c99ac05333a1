mod AroundLemmas
mod BodyForms
mod ActForms
mod TurnForms
mod Depths
