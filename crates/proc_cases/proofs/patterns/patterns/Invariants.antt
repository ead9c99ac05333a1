-- What is left of the case items decides what all have.
use Rattle.std.proofs.Common.{◌≡◌, ◌++◌, drop}
use Rattle.proc_cases.specs.Full.{labels_of, patterns}
use Rattle.proc_cases.proofs.patterns.patterns.Given as goal

abbrev pub invariant-loop-arm : goal.invariant-loop-arm
invariant-loop-arm l = l.out.items ++ patterns l.how l.context (labels_of (drop l.arm-index l.arms)) ≡ patterns l.how l.context (labels_of l.arms)
