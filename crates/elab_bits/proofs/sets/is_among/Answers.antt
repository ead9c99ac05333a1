use Rattle.std.proofs.Common.{◌∙◌}
use Rattle.elab_bits.proofs.Rows.{among}
use Rattle.elab_bits.proofs.sets.is_among.Goals as goal

pub returns : goal.returns
returns c = c.contains.ensures ∙ among c.args.set.now.keys c.args.bit
