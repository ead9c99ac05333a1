-- The table has nothing at the name, and the others stay.
use Rattle.std.proofs.Common.{None}
use Rattle.vlog_pre.proofs.MeaningLemmas.{updated}
use Rattle.vlog_pre.proofs.macros.Macros.remove.Goals as goal

pub returns : goal.returns
returns c = updated c.args.self.now.table c.remove.new.self c.args.name.now None c.remove.ensures.updates
