use Rattle.std.proofs.Common.{◌-◌, ◌+◌, ◌++◌, List, ap, ◌∙◌}
use Rattle.thin_form.specs.Netlist.{source_nodes}
use Rattle.thin_form.specs.declared.kind.Node.{Node}
use Rattle.thin_form.proofs.Formulas.{one_more_source}
use Rattle.thin_form.proofs.builder.source_nodes.Goals as goal

pub loop-n-preserved : goal.loop-n-preserved
loop-n-preserved c =
    ap (λ (xs : List Node). xs ++ source_nodes (c.loop-n.n + 1) (c.args.count - (c.loop-n.n + 1))) c.in_ok-push.ensures.items
    ∙ one_more_source c.loop-n.n c.args.count c.loop-n.nodes.items _ c.loop-n-test.true c.loop-n.invariant
