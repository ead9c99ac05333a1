-- The flop is asked for as it is.
use Rattle.cons_bind.proofs.named.fit.Goals as goal

pub returns-in-Flop-clause-fits : goal.returns-in-Flop-clause-fits
returns-in-Flop-clause-fits g c = λ lines declared. rw c.in-Flop.is c.flop_at.ensures.source
