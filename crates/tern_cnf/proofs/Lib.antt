pub mod WrittenLemmas
pub mod RailsLemmas
pub mod GrownLemmas
pub mod MeetsLemmas
pub mod SumLemmas
pub mod NodeLemmas
pub mod StatesLemmas
