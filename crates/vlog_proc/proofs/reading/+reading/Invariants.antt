-- What is left decides what all say.
use Rattle.std.proofs.Common.{◌≡◌, drop}
use Rattle.vlog_proc.specs.Faults.{all_checked}
use Rattle.vlog_proc.specs.Uses.{uses}
use Rattle.vlog_proc.specs.Paths.{ready}
use Rattle.vlog_proc.proofs.reading.+reading.Given as goal

abbrev pub invariant-all_reads-loop-e : goal.invariant-all_reads-loop-e
invariant-all_reads-loop-e l = all_checked (uses (ready l.design.signals l.bits.keys l.done.keys)) (drop l.e-index l.es) ≡ all_checked (uses (ready l.design.signals l.bits.keys l.done.keys)) l.es
