pub mod MarkLemmas
pub mod NumberLemmas
pub mod WordLemmas
pub mod PieceLemmas
pub mod AttributeLemmas
pub mod TokenLemmas
