use Rattle.rdcsign.proofs.NodeLemmas.{is_net}
use Rattle.rdcsign.proofs.plain.PlainNetView.nodes.Goals as goal

pub returns-clause-lawful : goal.returns-clause-lawful
returns-clause-lawful c = is_net c.args.self.now.design.now c.sources-sources.ensures.lawful
