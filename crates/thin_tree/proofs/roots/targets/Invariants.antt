use Rattle.std.proofs.Common.{◌≡◌, take}
use Rattle.thin_tree.specs.Copies.{targets}
use Rattle.thin_tree.specs.Written.{texts, all_copies}
use Rattle.thin_tree.proofs.roots.targets.Given as goal

abbrev pub invariant-loop-link : goal.invariant-loop-link
invariant-loop-link l = texts l.names.items ≡ targets (all_copies (take l.link-index l.links))
