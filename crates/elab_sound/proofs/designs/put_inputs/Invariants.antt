-- What is left of the terminals decides what all give.
use Rattle.std.proofs.Common.{◌≡◌, ◌++◌, drop}
use Rattle.std.specs.List.{flat_map}
use Rattle.design_sizes.specs.Sizes.{sized_alone}
use Rattle.design_sizes.specs.Lists.{all_sized}
use Rattle.elab_sound.proofs.designs.put_inputs.Given as goal

abbrev pub invariant-loop-terminal : goal.invariant-loop-terminal
invariant-loop-terminal l = all_sized l.room.items ++ flat_map (sized_alone l.design) (drop l.terminal-index l.terminals) ≡ all_sized l.fn.room.items ++ flat_map (sized_alone l.design) l.terminals
