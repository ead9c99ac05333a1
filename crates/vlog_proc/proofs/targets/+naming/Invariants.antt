-- What is left decides what all say.
use Rattle.std.proofs.Common.{◌≡◌, drop}
use Rattle.vlog_proc.specs.Faults.{all_checked}
use Rattle.vlog_proc.specs.Uses.{named_targets}
use Rattle.vlog_proc.specs.Assigns.{allowed, rule}
use Rattle.vlog_proc.proofs.targets.+naming.Given as goal

abbrev pub invariant-targets_allowed-loop-e : goal.invariant-targets_allowed-loop-e
invariant-targets_allowed-loop-e l = all_checked (named_targets (allowed (rule l.design.signals l.kind.edged l.kind.variables) l.running l.by)) (drop l.e-index l.es) ≡ all_checked (named_targets (allowed (rule l.design.signals l.kind.edged l.kind.variables) l.running l.by)) l.es
