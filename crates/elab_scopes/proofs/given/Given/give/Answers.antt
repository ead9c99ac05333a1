-- The table has the value at its name, and the others stay.
use Rattle.elab_decls.proofs.TableLemmas.{updated}
use Rattle.elab_scopes.proofs.given.Given.give.Goals as goal

pub returns : goal.returns
returns c = updated c.args.self.now.table c.insert.new.self c.args.name.items c.args.value c.in_ok-insert.ensures.updates
