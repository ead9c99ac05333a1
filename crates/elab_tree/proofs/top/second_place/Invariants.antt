-- What is left decides.
use Rattle.std.proofs.Common.{◌≡◌, drop, None}
use Rattle.elab_tree.specs.Tops.{second_place}
use Rattle.elab_tree.proofs.top.second_place.Given as goal

abbrev pub invariant-loop-module : goal.invariant-loop-module
invariant-loop-module l = second_place (drop l.module-index l.modules) l.name l.first ≡ second_place l.modules l.name None
