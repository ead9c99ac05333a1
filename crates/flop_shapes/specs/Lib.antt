pub mod Tests
pub mod Shapes
pub mod Answers
