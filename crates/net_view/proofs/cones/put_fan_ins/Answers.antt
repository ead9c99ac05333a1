use Rattle.std.proofs.Common.{◌≡◌, ◌⊎◌}
use Rattle.std.proofs.lemmas.Result.{on_ok_weaker}
use Rattle.net_view.specs.Due.{IsEither}
use Rattle.net_view.proofs.Members.{adds_both}
use Rattle.net_view.proofs.cones.put_fan_ins.Goals as goal

pub returns-in-Not-clause-items : goal.returns-in-Not-clause-items
returns-in-Not-clause-items g c = rw c.in-Not.is c.put.ensures.items

pub returns-in-And-clause-items : goal.returns-in-And-clause-items
returns-in-And-clause-items g c = rw c.in-And.is c.put_two.ensures.items

pub returns-in-Or-clause-items : goal.returns-in-Or-clause-items
returns-in-Or-clause-items g c = rw c.in-Or.is c.put_two-in-Or.ensures.items

pub returns-in-Xor-clause-items : goal.returns-in-Xor-clause-items
returns-in-Xor-clause-items g c = rw c.in-Xor.is c.put_two-in-Xor.ensures.items

pub returns-in_ok-put-in-Pick-clause-items : goal.returns-in_ok-put-in-Pick-clause-items
returns-in_ok-put-in-Pick-clause-items g c =
    let number = g.V.View.node_number in
    rw c.in-Pick.is
    (on_ok_weaker c.put_two-in-Pick.result
    (λ last. adds_both (λ n. n ≡ number c.in-Pick.c) (IsEither (number c.in-Pick.a) (number c.in-Pick.b)) (λ n. (n ≡ number c.in-Pick.c) ⊎ IsEither (number c.in-Pick.a) (number c.in-Pick.b) n) _ _ _ (λ n. (λ h. h, λ h. h)) c.in_ok-put-in-Pick.ensures.items last)
    c.put_two-in-Pick.ensures.items)

pub returns-in-Lift-clause-items : goal.returns-in-Lift-clause-items
returns-in-Lift-clause-items g c = rw c.in-Lift.is c.put_two-in-Lift.ensures.items
