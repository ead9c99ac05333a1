use Rattle.std.proofs.Common.{◌≡◌, ◌++◌, drop}
use Rattle.thin_tree.specs.Copies.{copies}
use Rattle.thin_tree.specs.Written.{all_copies}
use Rattle.thin_tree.proofs.roots.links.Given as goal

abbrev pub invariant-loop-driver : goal.invariant-loop-driver
invariant-loop-driver l = all_copies l.links.items ++ copies (drop l.driver-index l.drivers) ≡ copies l.drivers
