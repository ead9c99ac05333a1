use Rattle.std.proofs.Common.{◌≡◌, suc, ◌-◌, sym, ap, ◌∙◌, subst, arith}
use Rattle.vlog_expr.specs.Reading.{Reads, first}
use Rattle.vlog_parse.specs.Items.{head_of, item_by, item}
use Rattle.vlog_parse.proofs.items.+item.Goals as goal

pub returns : goal.returns
unfolding item
returns t c =
    let room = c.args.room in
    let cursor = c.args.cursor.now in
    let some : room ≡ suc (room - 1) = omega arith in
    let same : item_by (room - 1) (item (room - 1)) room c.head_of-head.result cursor ≡ item room cursor =
    ap (λ h. item_by (room - 1) (item (room - 1)) room h cursor) c.head_of-head.ensures
    ∙ (ap (λ n. item_by (room - 1) (item (room - 1)) n (head_of (first cursor)) cursor) some
    ∙ sym (ap (λ n. item n cursor) some)) in
    record { value = subst (λ o. Reads o c.by_head.result c.by_head.new.cursor) same c.by_head.ensures }
