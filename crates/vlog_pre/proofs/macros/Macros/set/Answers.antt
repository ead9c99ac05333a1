-- The table has the meaning at its name, and the others stay.
use Rattle.std.proofs.Common.{Some}
use Rattle.vlog_pre.proofs.MeaningLemmas.{updated}
use Rattle.vlog_pre.proofs.macros.Macros.set.Goals as goal

pub returns : goal.returns
returns c = updated c.args.self.now.table c.insert.new.self c.args.name.items (Some c.args.meaning) c.in_ok-insert.ensures.updates
