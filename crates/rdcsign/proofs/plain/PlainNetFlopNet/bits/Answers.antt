use Rattle.std.proofs.Common.{sym, ◌∙◌}
use Rattle.rdcsign.proofs.PlainLemmas.{bits_len, is_flop_net}
use Rattle.rdcsign.proofs.plain.PlainNetFlopNet.bits.Goals as goal

pub returns-clause-count : goal.returns-clause-count
returns-clause-count c = c.bits.ensures ∙ sym (bits_len 0 c.args.self.now.design.now.bits)

pub returns-clause-lawful : goal.returns-clause-lawful
returns-clause-lawful c = is_flop_net c.args.self.now.design.now c.sources-sources.ensures.lawful c.args.self.now.small
