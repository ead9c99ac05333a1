-- What is left decides.
use Rattle.std.proofs.Common.{◌≡◌, drop}
use Rattle.vlog_elab.specs.Bits.{met_from, once}
use Rattle.vlog_elab.proofs.once.once.Given as goal

abbrev pub invariant-loop-k : goal.invariant-loop-k
invariant-loop-k l = met_from l.design.signals l.places l.k l.marks.items (drop l.k l.signals) ≡ once l.design.signals l.places
