-- What is left decides what all add.
use Rattle.std.proofs.Common.{◌≡◌, ◌++◌, drop}
use Rattle.std.specs.List.{flat_map}
use Rattle.elab_bits.specs.Touches.{unless}
use Rattle.elab_bits.proofs.sets.put_others.Given as goal

abbrev pub invariant-loop-touch : goal.invariant-loop-touch
invariant-loop-touch l = l.touches.items ++ flat_map (unless l.set.keys) (drop l.touch-index l.more) ≡ l.fn.touches.items ++ flat_map (unless l.set.keys) l.more
