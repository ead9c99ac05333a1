-- The digits so far.
use Rattle.std.proofs.Common.{◌≡◌, map, take}
use Rattle.value_of.specs.Shown.{digit}
use Rattle.value_of.proofs.showing.rising.Given as goal

abbrev pub invariant-loop-value : goal.invariant-loop-value
invariant-loop-value l = l.text.items ≡ map digit (take l.value-index l.word)
