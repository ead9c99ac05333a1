use Rattle.thin_tree.proofs.Named.{answer_named}
use Rattle.thin_tree.proofs.reader.read.Goals as goal

pub returns-clause-names : goal.returns-clause-names
returns-clause-names c = answer_named c.args.design.now c.whole.result c.whole.ensures.tree
