use Rattle.reset_trees.proofs.TangledNetLemmas.{tangled_flop_net}
use Rattle.reset_trees.proofs.tangled_net.TangledFlopNet.bits.Goals as goal

pub returns-clause-lawful : goal.returns-clause-lawful
returns-clause-lawful c = tangled_flop_net c.args.self.now.looped
