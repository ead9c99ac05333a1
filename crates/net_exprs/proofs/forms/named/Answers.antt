use Rattle.std.proofs.Common.{ap}
use Rattle.design_form.specs.Extents.{shape_of}
use Rattle.net_words.specs.Builds.{◌>>=◌, return}
use Rattle.net_words.proofs.BuildLemmas.{last}
use Rattle.net_exprs.specs.Wired.{Wired}
use Rattle.net_exprs.specs.Extensions.{extended}
use Rattle.net_exprs.proofs.Transport.{same_build, there_already}
use Rattle.net_exprs.proofs.forms.named.Goals as goal

pub returns-clause-builds : goal.returns-clause-builds
returns-clause-builds c =
    same_build _ _ (ap (λ (w : Wired). return w.nodes >>= extended (shape_of c.args.context)) c.in_ok-view.ensures.view)
    (last (there_already c.args.net.now c.in_ok-view.view.nodes.items (extended (shape_of c.args.context))) c.extended.ensures.builds)
