-- A node's mark joins those before it.
use Rattle.std.proofs.Common.{◌∙◌, ap, take, length}
use Rattle.thin_form.specs.Netlist.{formulas}
use Rattle.thin_form.proofs.DesignOf.{mapped_reads, mapped_push}
use Rattle.thin_cons.specs.Roles.{reads_clock}
use Rattle.thin_cons.proofs.judge.mark.Goals as goal

pub is_marked-marked-requires : goal.is_marked-marked-requires
is_marked-marked-requires c =
    rw c.requires.whole
    (mapped_reads (reads_clock c.args.roles.now) _ c.args.design.now.nodes c.loop-k.k _ c.node.result c.loop-k.marks.items c.requires.lawful.nodes c.node.ensures c.loop-k.invariant (ap length c.deref.ensures.value))

pub loop-k-preserved : goal.loop-k-preserved
loop-k-preserved c =
    let nodes = c.args.design.now.nodes in
    let mark = c.is_marked-marked.ensures (formulas (take c.loop-k.k nodes)) (c.deref.ensures.value ∙ c.loop-k.invariant) in
    c.in_ok-push.ensures.items ∙ mapped_push (reads_clock c.args.roles.now) nodes c.loop-k.k c.node.result c.loop-k.marks.items c.is_marked-marked.result c.node.ensures c.loop-k.invariant mark
