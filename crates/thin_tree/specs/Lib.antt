pub mod Tree
pub mod Postfix
pub mod Grammar
pub mod Copies
pub mod Form
pub mod Written
pub mod Places
