pub mod SmallNetLemmas
