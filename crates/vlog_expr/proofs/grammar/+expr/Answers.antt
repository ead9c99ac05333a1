use Rattle.std.proofs.Common.{◌≡◌, suc, ◌-◌, sym, ap, subst, arith}
use Rattle.vlog_expr.specs.Reading.{Reads}
use Rattle.vlog_expr.specs.Exprs.{expr}
use Rattle.vlog_expr.proofs.grammar.+expr.Goals as goal

pub returns-clause-value : goal.returns-clause-value
unfolding expr
returns-clause-value t c =
    let some : c.args.depth ≡ suc (c.args.depth - 1) = omega arith in
    subst (λ o. Reads o c.whole.result c.whole.new.cursor) (sym (ap (λ n. expr n c.args.level c.args.cursor.now) some)) c.whole.ensures.value
