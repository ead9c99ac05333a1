-- What is left of the members decides what all give.
use Rattle.std.proofs.Common.{◌≡◌, ◌++◌, drop}
use Rattle.design_sizes.specs.Lists.{all_sized, are_apart}
use Rattle.design_sizes.proofs.walk.+parts.Given as goal

abbrev pub invariant-put_members-loop-member : goal.invariant-put_members-loop-member
invariant-put_members-loop-member l =
    all_sized l.out.items ++ are_apart l.design l.inside (drop l.member-index l.members) ≡ all_sized l.fn.out.items ++ are_apart l.design l.inside l.members
