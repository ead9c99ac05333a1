-- What is left of the labels decides what all say.
use Rattle.std.proofs.Common.{◌≡◌, drop}
use Rattle.std.specs.List.{list_all}
use Rattle.proc_cases.specs.Full.{is_constant}
use Rattle.proc_cases.proofs.full.all_constant.Given as goal

abbrev pub invariant-loop-pattern : goal.invariant-loop-pattern
invariant-loop-pattern l = list_all is_constant (drop l.pattern-index l.patterns) ≡ list_all is_constant l.patterns
