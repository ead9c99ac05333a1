-- The pins that were looked at have their calms.
use Rattle.std.proofs.Common.{List, take}
use Rattle.cons_bind.specs.Names.{net_of}
use Rattle.cons_bind.specs.declared.bound.BoundForm.{BoundForm}
use Rattle.reset_trees.specs.Marking.{AreLevels, AreCalmsOf}
use Rattle.reset_trees.proofs.CalmLemmas.{IsListed}
use Rattle.reset_trees.proofs.calms.calms_of.Given as goal

abbrev pub invariant-pins : goal.invariant-pins
invariant-pins g l =
    let net = net_of (g.V.View.gates l.view) (g.V.FlopNet.names l.view) (g.V.FlopNet.kinds l.view) (g.V.FlopNet.named_bits l.view) in
    (lines : List BoundForm) → AreLevels lines l.levels → AreCalmsOf net lines (IsListed (take l.pin-index l.pins)) l.calms.items
