use Rattle.std.proofs.Common.{◌≡◌, suc, ◌-◌, sym, ap, subst, arith}
use Rattle.vlog_expr.specs.Reading.{Reads}
use Rattle.vlog_stmt.specs.Statements.{stmt}
use Rattle.vlog_stmt.proofs.stmts.+stmt.Goals as goal

pub returns : goal.returns
unfolding stmt
returns t c =
    let some : c.args.room ≡ suc (c.args.room - 1) = omega arith in
    record { value = subst (λ o. Reads o c.whole.result c.whole.new.cursor) (sym (ap (λ n. stmt n c.args.cursor.now) some)) c.whole.ensures }
