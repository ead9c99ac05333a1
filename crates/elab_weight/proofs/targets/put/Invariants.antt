-- What is left of the numbers decides what all give.
use Rattle.std.proofs.Common.{◌≡◌, drop}
use Rattle.elab_weight.specs.TargetBits.{once}
use Rattle.elab_weight.proofs.targets.put.Given as goal

abbrev pub invariant-loop-number : goal.invariant-loop-number
invariant-loop-number l = once l.bits.keys (drop l.number-index l.numbers) ≡ once l.fn.bits.keys l.numbers
