-- A `clock` line declares the port of its name.
use Rattle.cons_bind.proofs.declarations.clock_of.Goals as goal

pub returns-in-Clock-clause-source : goal.returns-in-Clock-clause-source
returns-in-Clock-clause-source g c = rw c.in-Clock.is c.port_named.ensures.source
