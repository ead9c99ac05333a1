-- A node's origin joins those before it.
use Rattle.std.proofs.Common.{◌∙◌, ap, take, length}
use Rattle.thin_form.specs.Netlist.{formulas, design_of}
use Rattle.thin_form.proofs.DesignOf.{mapped_reads, mapped_push}
use Rattle.rdcsign.specs.Origin.{origin_of}
use Rattle.rdcsign.proofs.origin.find_origins.Goals as goal

pub of_node-origin-requires-clause-within : goal.of_node-origin-requires-clause-within
of_node-origin-requires-clause-within c =
    mapped_reads (origin_of (design_of c.args.design.now) c.args.roles.now) _ c.args.design.now.nodes c.loop-k.k _ c.node.result c.loop-k.origins.items c.sources-sources.ensures.lawful.nodes c.node.ensures c.loop-k.invariant (ap length c.deref.ensures.value)

pub loop-k-preserved : goal.loop-k-preserved
loop-k-preserved c =
    let net = c.args.design.now in
    let origin = c.of_node-origin.ensures (formulas (take c.loop-k.k net.nodes)) (c.deref.ensures.value ∙ c.loop-k.invariant) in
    c.in_ok-push.ensures.items ∙ mapped_push (origin_of (design_of net) c.args.roles.now) net.nodes c.loop-k.k c.node.result c.loop-k.origins.items c.of_node-origin.result c.node.ensures c.loop-k.invariant origin
