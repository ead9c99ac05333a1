-- What is named, and behind it what is left, is all.
use Rattle.std.proofs.Common.{◌≡◌, ◌++◌, drop}
use Rattle.std.specs.List.{flat_map}
use Rattle.elab_binds.specs.ParameterNames.{names_of_item}
use Rattle.elab_binds.proofs.parameters.+items.Given as goal

abbrev pub invariant-name_items-loop-item : goal.invariant-name_items-loop-item
invariant-name_items-loop-item l = l.names ++ flat_map names_of_item (drop l.item-index l.items) ≡ l.fn.names ++ flat_map names_of_item l.items
