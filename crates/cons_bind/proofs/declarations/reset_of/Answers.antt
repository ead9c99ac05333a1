-- A `reset` line declares the source of its name.
use Rattle.cons_bind.proofs.declarations.reset_of.Goals as goal

pub returns-in-Reset-clause-source : goal.returns-in-Reset-clause-source
returns-in-Reset-clause-source g c = rw c.in-Reset.is c.port_or_flop_named.ensures.source
