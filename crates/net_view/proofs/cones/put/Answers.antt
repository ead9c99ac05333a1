use Rattle.net_view.proofs.Members.{adds_one}
use Rattle.net_view.proofs.cones.put.Goals as goal

pub returns-clause-items : goal.returns-clause-items
returns-clause-items g c = rw (← c.index.ensures) (adds_one _ _ _ c.in_ok-push.ensures.permutation)
