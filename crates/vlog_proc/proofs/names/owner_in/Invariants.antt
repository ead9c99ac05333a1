-- What is left decides what all say.
use Rattle.std.proofs.Common.{◌≡◌, drop}
use Rattle.vlog_proc.specs.Names.{owner_in}
use Rattle.vlog_proc.proofs.names.owner_in.Given as goal

abbrev pub invariant-loop-signal : goal.invariant-loop-signal
invariant-loop-signal l = owner_in l.design.signals l.bit (drop l.signal-index l.signals) ≡ owner_in l.design.signals l.bit l.signals
