use Rattle.net_words.proofs.BuildLemmas.{done}
use Rattle.net_procs.proofs.NodeSteps.{elsewhere}
use Rattle.net_procs.proofs.changes.change.Goals as goal

pub returns-clause-builds : goal.returns-clause-builds
returns-clause-builds c = done _ (tt {0}) (elsewhere c.args.net.now c.args.bits.now c.args.stroke c.args.nodes.now c.if-is_among.ensures.among)
