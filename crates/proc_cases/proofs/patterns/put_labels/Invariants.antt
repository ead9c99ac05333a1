-- What is left of the labels decides what all add.
use Rattle.std.proofs.Common.{◌≡◌, ◌++◌, map, drop}
use Rattle.proc_cases.specs.Full.{pattern}
use Rattle.proc_cases.proofs.patterns.put_labels.Given as goal

abbrev pub invariant-loop-label : goal.invariant-loop-label
invariant-loop-label l = l.out.items ++ map (pattern l.how l.context) (drop l.label-index l.labels) ≡ l.fn.out.items ++ map (pattern l.how l.context) l.labels
