-- A flop that asks about no calm has none.
use Rattle.cons_bind.specs.Names.{net_of}
use Rattle.reset_trees.proofs.CalmLemmas.{calms_deaf, no_calm}
use Rattle.reset_trees.proofs.calms.pin_calms.Goals as goal

pub returns-else-flop : goal.returns-else-flop
returns-else-flop g c = λ lines are.
    let net = net_of (g.V.View.gates c.args.view.now) (g.V.FlopNet.names c.args.view.now) (g.V.FlopNet.kinds c.args.view.now) (g.V.FlopNet.named_bits c.args.view.now) in
    calms_deaf net lines c.args.pin.now.flop c.args.calms.now.items (λ s. no_calm net lines c.args.pin.now.flop s c.in-Flop.flop c.args.kinds.now c.requires.kinds c.in-Flop.is c.if-flop.false)
