-- The roots, and all that they read.
use Rattle.cons_bind.specs.Names.{net_of}
use Rattle.cons_bind.proofs.ReadsLemmas.{nodes_read}
use Rattle.cons_bind.proofs.reads.mark_read_nodes.Goals as goal

pub returns-clause-marks : goal.returns-clause-marks
returns-clause-marks g c = λ unmarked.
    nodes_read (net_of (g.V.View.gates c.args.view.now) (g.V.FlopNet.names c.args.view.now) (g.V.FlopNet.kinds c.args.view.now) (g.V.FlopNet.named_bits c.args.view.now)) c.args.marks.now c.mark_roots.new.marks c.mark_cones.new.marks unmarked c.mark_roots.ensures c.mark_cones.ensures
