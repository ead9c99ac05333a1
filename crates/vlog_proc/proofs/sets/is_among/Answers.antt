use Rattle.std.proofs.Common.{◌∙◌}
use Rattle.vlog_proc.proofs.Rows.{among}
use Rattle.vlog_proc.proofs.sets.is_among.Goals as goal

pub returns : goal.returns
returns c = c.contains.ensures ∙ among c.args.set.now.keys c.args.bit
