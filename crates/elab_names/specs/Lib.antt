pub mod Answers
pub mod Meanings
pub mod Selects
pub mod Expressions
pub mod Targets
pub mod Statements
pub mod Laws
