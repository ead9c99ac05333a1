pub mod Answers
pub mod Saying
pub mod Forms
pub mod Weighing
pub mod Counting
pub mod Small
pub mod OneFlat
