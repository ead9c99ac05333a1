-- What is left of the members decides whether one holds a name.
use Rattle.std.proofs.Common.{◌≡◌, drop}
use Rattle.std.specs.List.{list_any}
use Rattle.elab_names.specs.Selects.{holds_name}
use Rattle.elab_names.proofs.numbers.+holds.Given as goal

abbrev pub invariant-any_holds-loop-member : goal.invariant-any_holds-loop-member
invariant-any_holds-loop-member l = list_any holds_name (drop l.member-index l.members) ≡ list_any holds_name l.members
