-- The table has the meaning at its name, and the others stay.
use Rattle.elab_decls.proofs.TableLemmas.{updated}
use Rattle.elab_binds.proofs.index.Index.set.Goals as goal

pub returns : goal.returns
returns c = updated c.args.self.now.table c.insert.new.self c.args.name.items c.args.listed c.in_ok-insert.ensures.updates
