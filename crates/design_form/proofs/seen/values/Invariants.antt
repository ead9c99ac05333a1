-- The values so far.
use Rattle.std.proofs.Common.{◌≡◌, map, take}
use Rattle.design_form.specs.State.{value_at}
use Rattle.design_form.proofs.seen.values.Given as goal

abbrev pub invariant-loop-number : goal.invariant-loop-number
invariant-loop-number l = l.word.items ≡ map (value_at l.state) (take l.number-index l.numbers)
