pub mod CountsLemmas
mod FileLemmas
pub mod ForCallers
mod PileLemmas
pub mod SinkLemmas
