-- The table has the meaning at its name, and the others stay.
use Rattle.elab_names.proofs.NameLemmas.{updated}
use Rattle.elab_names.proofs.frame.Frame.set.Goals as goal

pub returns-clause-ok : goal.returns-clause-ok
returns-clause-ok c = updated c.args.self.now.table c.insert.new.self c.args.name.items c.args.meaning c.in_ok-insert.ensures.updates
