-- What is left of the members decides what all say.
use Rattle.std.proofs.Common.{◌≡◌, map, drop}
use Rattle.std.specs.List.{list_any}
use Rattle.design_sizes.specs.Sizes.{has_name}
use Rattle.design_sizes.proofs.naming.+naming.Given as goal

abbrev pub invariant-any_has_name-loop-member : goal.invariant-any_has_name-loop-member
invariant-any_has_name-loop-member l = list_any (λ b. b) (map has_name (drop l.member-index l.members)) ≡ list_any (λ b. b) (map has_name l.members)
