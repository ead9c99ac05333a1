-- The sources that were looked at have their calms.
use Rattle.std.proofs.Common.{◌<◌, List, take}
use Rattle.cons_bind.specs.Names.{net_of}
use Rattle.cons_bind.specs.declared.bound.BoundForm.{BoundForm}
use Rattle.reset_trees.specs.Marking.{AreLevels, AreCalmsOf}
use Rattle.reset_trees.proofs.CalmLemmas.{IsPast}
use Rattle.reset_trees.proofs.calms.push_calms.Given as goal

abbrev pub invariant-sources : goal.invariant-sources
invariant-sources g l =
    let net = net_of (g.V.View.gates l.view) (g.V.FlopNet.names l.view) (g.V.FlopNet.kinds l.view) (g.V.FlopNet.named_bits l.view) in
    (lines : List BoundForm) → AreLevels lines l.levels → AreCalmsOf net lines (λ f s. f < l.pin.flop) l.initial.calms.items
    → AreCalmsOf net lines (IsPast l.pin.flop (take l.s-index l.pin.sources)) l.calms.items
