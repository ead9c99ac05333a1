-- What callers may cite: counts over several calls, and texts that are written in several pieces.
pub use Rattle.rdc_outside.proofs.CountsLemmas.{Rose-widen}
pub use Rattle.rdc_outside.proofs.SinkLemmas.{written_with-written_with, written_with-nil}
