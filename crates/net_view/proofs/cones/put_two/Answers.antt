use Rattle.std.proofs.Common.{◌≡◌}
use Rattle.std.proofs.lemmas.Result.{on_ok_weaker}
use Rattle.net_view.specs.Due.{IsEither}
use Rattle.net_view.proofs.Members.{adds_both}
use Rattle.net_view.proofs.cones.put_two.Goals as goal

pub returns-clause-items : goal.returns-clause-items
returns-clause-items g c =
    on_ok_weaker c.put-2.result
    (λ last. adds_both (λ n. n ≡ g.V.View.node_number c.args.a) (λ n. n ≡ g.V.View.node_number c.args.b) (IsEither (g.V.View.node_number c.args.a) (g.V.View.node_number c.args.b)) _ _ _ (λ n. (λ h. h, λ h. h)) c.in_ok-put.ensures.items last)
    c.put-2.ensures.items
