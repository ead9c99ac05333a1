use Rattle.std.proofs.Common.{◌≡◌, List, OnOk, refl, subst, arith}
use Rattle.design_form.specs.Extents.{shape_of}
use Rattle.design_sizes.specs.Sizes.{Sized}
use Rattle.design_sizes.specs.Lists.{all_sized, apart}
use Rattle.design_sizes.proofs.Rows.{one_more, all_done}
use Rattle.design_sizes.proofs.WalkForms.{put-all, walk-Number, walk-Name, walk-Select, walk-Repeat, walk-Binary, walk-Conditional}
use Rattle.design_sizes.proofs.walk.+parts.Goals as goal

pub put-returns : goal.put-returns
put-returns t c =
    subst (λ (z : List Sized). OnOk c.put_below.result (all_sized c.put_below.new.out.items ≡ z))
    (put-all c.args.design.now (shape_of c.args.size) c.args.inside c.is_constant-constant.result c.args.e.now _ _ _ c.is_constant-constant.ensures c.in_ok-push.ensures.items refl)
    c.put_below.ensures

pub put_below-returns-in-Number : goal.put_below-returns-in-Number
put_below-returns-in-Number t c = walk-Number _ _ _ _ _ _ _ c.in-Number.is

pub put_below-returns-in-Name : goal.put_below-returns-in-Name
put_below-returns-in-Name t c = walk-Name _ _ _ _ _ _ _ c.in-Name.is

pub put_below-returns-in_ok-put_apart-in-Select : goal.put_below-returns-in_ok-put_apart-in-Select
put_below-returns-in_ok-put_apart-in-Select t c =
    subst (λ (z : List Sized). OnOk c.put_apart-in-Select-2.result (all_sized c.put_apart-in-Select-2.new.out.items ≡ z))
    (walk-Select c.args.design.now (shape_of c.args.size) c.args.inside c.args.e.now _ _ _ _ _ _ _ _ _ c.in-Select.is c.get-in-Select.ensures c.get-in-Select-2.ensures c.in_ok-put_apart-in-Select.ensures)
    c.put_apart-in-Select-2.ensures

pub put_below-returns-in_ok-put_apart-in-Repeat : goal.put_below-returns-in_ok-put_apart-in-Repeat
put_below-returns-in_ok-put_apart-in-Repeat t c =
    subst (λ (z : List Sized). OnOk c.put_members-in-Repeat.result (all_sized c.put_members-in-Repeat.new.out.items ≡ z))
    (walk-Repeat c.args.design.now (shape_of c.args.size) c.args.inside c.args.e.now _ _ _ _ _ _ _ c.in-Repeat.is c.get-in-Repeat.ensures c.as_slice-in-Repeat.ensures c.in_ok-put_apart-in-Repeat.ensures)
    c.put_members-in-Repeat.ensures

pub put_below-returns-in_ok-put-in-Binary : goal.put_below-returns-in_ok-put-in-Binary
put_below-returns-in_ok-put-in-Binary t c =
    subst (λ (z : List Sized). OnOk c.put-in-Binary-2.result (all_sized c.put-in-Binary-2.new.out.items ≡ z))
    (walk-Binary c.args.design.now (shape_of c.args.size) _ _ c.args.inside c.args.e.now _ _ _ _ _ _ _ _ c.in-Binary.is c.get-left.ensures c.get-right.ensures c.in_ok-first-in-Binary.ensures.left c.in_ok-first-in-Binary.ensures.right c.in_ok-put-in-Binary.ensures)
    c.put-in-Binary-2.ensures

pub put_below-returns-in_ok-put-in-Conditional : goal.put_below-returns-in_ok-put-in-Conditional
put_below-returns-in_ok-put-in-Conditional t c =
    subst (λ (z : List Sized). OnOk c.put-in-Conditional-2.result (all_sized c.put-in-Conditional-2.new.out.items ≡ z))
    (walk-Conditional c.args.design.now (shape_of c.args.size) c.args.inside c.args.e.now _ _ _ _ _ _ _ _ _ _ c.in-Conditional.is c.get-in-Conditional.ensures c.get-in-Conditional-2.ensures c.get-in-Conditional-3.ensures
    (c.in_ok-put_apart-in-Conditional).ensures c.in_ok-put-in-Conditional.ensures)
    c.put-in-Conditional-2.ensures

pub put_members-loop-member-preserved : goal.put_members-loop-member-preserved
put_members-loop-member-preserved t c =
    one_more (apart c.args.design.now c.args.inside) (all_sized c.args.out.now.items) (all_sized c.loop-member.out.items) (all_sized c.put_apart.new.out.items) c.args.members.now c.loop-member.member-index c.member-item.result (omega arith) c.member-item.is c.loop-member.invariant c.in-Ok.ensures

pub put_members-returns : goal.put_members-returns
put_members-returns t c = all_done (apart c.args.design.now c.args.inside) (all_sized c.args.out.now.items) (all_sized c.loop-member.out.items) c.args.members.now c.loop-member.member-index (omega arith) c.loop-member.invariant
