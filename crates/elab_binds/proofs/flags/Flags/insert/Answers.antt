-- The table has the flag at its name, and the others stay.
use Rattle.elab_decls.proofs.TableLemmas.{updated}
use Rattle.elab_binds.proofs.flags.Flags.insert.Goals as goal

pub returns : goal.returns
returns c = updated c.args.self.now.table c.insert.new.self c.args.name.items c.args.flag c.in_ok-insert.ensures.updates
