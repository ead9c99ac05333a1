-- So many rounds lead from each target as far as 2 to their power steps.
use Rattle.std.proofs.Common.{◌≡◌, ◌^◌, map}
use Rattle.thin_tree.specs.Copies.{targets, walk}
use Rattle.thin_tree.specs.Written.{texts, all_copies}
use Rattle.thin_tree.proofs.roots.ends.Given as goal

abbrev pub invariant-loop-round : goal.invariant-loop-round
invariant-loop-round l = texts l.ends.items ≡ map (walk (all_copies l.links) (2 ^ l.round)) (targets (all_copies l.links))
