pub mod FoldLemmas
mod TableLemmas
mod Items
pub mod FitLemmas
mod OrderLemmas
mod DraftLemmas
mod CallLemmas
