-- What is left decides what all say.
use Rattle.std.proofs.Common.{◌≡◌, drop}
use Rattle.vlog_proc.specs.Faults.{all_checked}
use Rattle.vlog_proc.specs.Lists.{listed}
use Rattle.vlog_proc.proofs.events.all_listed.Given as goal

abbrev pub invariant-loop-touch : goal.invariant-loop-touch
invariant-loop-touch l = all_checked (listed l.design.signals l.bits.keys l.cover.keys) (drop l.touch-index l.touches) ≡ all_checked (listed l.design.signals l.bits.keys l.cover.keys) l.touches
