-- What is left of the labels decides what all say.
use Rattle.std.proofs.Common.{◌≡◌, drop}
use Rattle.std.specs.List.{list_any}
use Rattle.proc_cases.specs.Full.{hits}
use Rattle.proc_cases.proofs.patterns.any_hits.Given as goal

abbrev pub invariant-loop-pattern : goal.invariant-loop-pattern
invariant-loop-pattern l = list_any (hits l.number) (drop l.pattern-index l.patterns) ≡ list_any (hits l.number) l.patterns
