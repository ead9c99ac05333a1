use Rattle.std.proofs.Common.{◌≡◌, map, take}
use Rattle.reset_trees.proofs.cone.numbers_of.Given as goal

abbrev pub invariant-sources : goal.invariant-sources
invariant-sources g l = l.numbers ≡ map g.V.View.source_number (take l.source-index l.sources)
