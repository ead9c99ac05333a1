pub mod DriveForms
