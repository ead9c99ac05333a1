-- A bit that is no source is none of these.
use Rattle.cons_bind.proofs.sources.port_at.Goals as goal

pub returns-in-None-clause-source : goal.returns-in-None-clause-source
returns-in-None-clause-source g c = λ s is. c.in-None.ensures.source s is.0
