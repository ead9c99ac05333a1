use Rattle.rdcsign.proofs.PlainLemmas.{machines_agree, bit_values}
use Rattle.rdcsign.proofs.plain.net_is_design.Goals as goal

pub returns-clause-machine : goal.returns-clause-machine
returns-clause-machine c = λ roles. machines_agree c.args.net.now.design.now roles c.sources-sources.ensures.lawful

pub returns-clause-bits : goal.returns-clause-bits
returns-clause-bits c = bit_values c.args.net.now.design.now c.sources-sources.ensures.lawful
