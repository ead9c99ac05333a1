-- A bit that is no source has no mark.
use Rattle.cons_bind.proofs.sources.marked_at.Goals as goal

pub returns-in_default-clause-source : goal.returns-in_default-clause-source
returns-in_default-clause-source g c = λ s is marked. c.in_default.ensures.source s is
